use Rattle.std.proofs.Common.{subst}
use Rattle.hs_stream.specs.Scratches.{KeepsWhole}
use Rattle.hs_stream.proofs.packed.write_kept.Goals as goal

pub write_whole-requires-clause-alike : goal.write_whole-requires-clause-alike
write_whole-requires-clause-alike g c =
    let told = c.has_states.ensures in
    let is = c.if-has_states.false in
    subst KeepsWhole c.packing.ensures.packing (record { unpacks = told.unpacks is; packs = told.packs is; sizes = told.sizes is })
