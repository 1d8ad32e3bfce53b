use Rattle.std.proofs.Common.{◌+◌, ◌≤◌, length, slice_index, arith}
use Rattle.hs_base.specs.Regions.{sums_from}
use Rattle.hs_layout.proofs.StartLemmas.{next-small}
use Rattle.hs_layout.proofs.starts.starts_for.Goals as goal

pub overflow_add-at : goal.overflow_add-at
overflow_add-at c =
    let small : c.loop-size.at + slice_index c.args.sizes.now c.loop-size.size-index ≤ slice_index (sums_from c.args.first c.args.sizes.now) (length c.args.sizes.now) =
    next-small c.loop-size.at (slice_index (sums_from c.args.first c.args.sizes.now) (length c.args.sizes.now)) c.args.sizes.now c.loop-size.size-index (omega arith) c.loop-size.invariant.end in
    omega (arith, c.requires.small)
