use Rattle.std.proofs.Common.{◌*◌, ◌&&◌, ap, arith, inl, inr}
use Rattle.std.proofs.lemmas.Bool.{cases_lt}
use Rattle.hs_base.specs.Bits.{has_word_bit}
use Rattle.hs_base.proofs.BitLemmas.{bits-past}
use Rattle.hs_limex.proofs.RegionWordLemmas.{apart-more}
use Rattle.hs_limex.proofs.region_words.is_apart_from.Goals as goal

pub loop-place-preserved : goal.loop-place-preserved
loop-place-preserved c = apart-more c.args.bytes.now c.args.row.now c.loop-place.place c.shared.result c.if-shared-ne0.false c.shared.ensures c.loop-place.invariant

pub returns : goal.returns
returns c is k =
    elim (cases_lt k (64 * c.loop-place.place)) [
      | inl below ↦ c.loop-place.invariant k below
      | inr past ↦ ap (λ b. b && has_word_bit c.args.row.now k) (bits-past c.args.bytes.now k (omega arith))
    ]
