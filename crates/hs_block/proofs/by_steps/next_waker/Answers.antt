use Rattle.std.proofs.Common.{length, arith}
use Rattle.std.specs.Prelude.{slice_index}
use Rattle.hs_base.specs.ByteSets.{has}
use Rattle.hs_bits.proofs.PlaceLemmas.{both-first, no-member-there}
use Rattle.hs_block.proofs.by_steps.next_waker.Goals as goal

pub returns-clause-entered : goal.returns-clause-entered
returns-clause-entered c below = both-first c.args.enters c.member_places.result c.next_place.result (c.next_place.ensures.set below)

pub returns-clause-none : goal.returns-clause-none
returns-clause-none c i low high entered =
    no-member-there c.args.enters c.member_places.result i (length c.args.bytes.now) (has c.args.wakers.now (slice_index c.args.bytes.now i)) (omega (arith, c.next_place.ensures.high)) entered
    (c.next_place.ensures.none i low high) (c.member_places.ensures i)
