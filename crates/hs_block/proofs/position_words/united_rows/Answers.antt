use Rattle.std.proofs.Common.{arith}
use Rattle.hs_bits.proofs.PlaceLemmas.{bit-none}
use Rattle.hs_block.proofs.PositionWordLemmas.{both-past, slice-places, united-place}
use Rattle.hs_block.proofs.position_words.united_rows.Goals as goal

pub loop-place-init : goal.loop-place-init
loop-place-init c i = bit-none i

pub united-all-requires : goal.united-all-requires
united-all-requires c = record { few = λ y past. both-past _ _ y (omega arith) (omega arith) }

pub loop-place-preserved : goal.loop-place-preserved
loop-place-preserved c i =
    let p = c.loop-place.place in
    united-place c.args.words.now c.args.row.now c.args.live.now _ p i c.loop-place.all c.united-all.result (omega arith) (λ y below. slice-places c.args.words.now p y _ (omega arith)) (c.united-all.ensures i) (c.loop-place.invariant i)
