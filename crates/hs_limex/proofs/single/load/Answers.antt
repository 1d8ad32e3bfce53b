use Rattle.std.proofs.Common.{◌≡◌, ◌+◌, ◌*◌, sym, ap, ◌∙◌, inl, inr, arith}
use Rattle.std.proofs.lemmas.Bool.{cases_lt}
use Rattle.hs_base.specs.Bits.{has_bit}
use Rattle.hs_base.proofs.BitLemmas.{bits-past}
use Rattle.hs_limex.proofs.SingleLemmas.{past-word}
use Rattle.hs_limex.proofs.single.load.Goals as goal

pub returns-in-8 : goal.returns-in-8
returns-in-8 c k =
    elim (cases_lt k 64) [
      | inl below ↦
          let place : 8 * 0 + k ≡ k = omega arith in
          c.word_at.ensures.bits k below ∙ ap (has_bit c.args.bytes.now) place
      | inr past ↦
          past-word c.word_at.result k c.word_at.type_inv past
          ∙ sym (bits-past c.args.bytes.now k (omega (arith, past, c.requires)))
    ]
