use Rattle.std.proofs.Common.{◌<◌, get_or, length, slice_get, inl, inr, ap, refl, sym, ◌∙◌, arith}
use Rattle.std.proofs.lemmas.Bool.{cases_lt}
use Rattle.std.proofs.lemmas.List.{get_or_default}
use Rattle.hs_base.specs.declared.context.Mask.{Mask}
use Rattle.std.proofs.lemmas.Option.{slice_get_past, slice_get_read}
use Rattle.hs_base.specs.Bits.{has_word_bit}
use Rattle.hs_engine.specs.Automata.{in_mask}
use Rattle.hs_block.proofs.AnyLemmas.{true-false}
use Rattle.hs_block.proofs.MaskLemmas.{some-more, some-there}
use Rattle.hs_block.proofs.mask_words.some_row.Goals as goal

pub loop-position-init : goal.loop-position-init
loop-position-init c = record {
  len = refl;
  some = λ k h below is. absurd (omega arith);
}

pub loop-position-preserved : goal.loop-position-preserved
loop-position-preserved c =
    let p = c.loop-position.position in
    let inv = c.loop-position.invariant in
    let masks = c.args.masks.now in
    let within : p < length masks = omega (arith, c.loop-position-test.true) in
    let here : Mask = get_or masks p (record { bits = 0 }) in
    record {
      len = c.put_word_bit.ensures.len ∙ inv.len;
      some = λ k h below is.
          some-more p k c.unwrap_or-some.result (has_word_bit c.loop-position.row k) (has_word_bit c.put_word_bit.new.words k) below (c.put_word_bit.ensures.bits k)
          (λ same. c.unwrap_or-some.ensures ∙ some-there c.in_all_contexts.result _ h c.in_all_contexts.ensures
          (sym (ap (λ n. in_mask n h) (slice_get_read masks (length masks) p here refl within (get_or_default masks p (record { bits = 0 }) here within))) ∙ (ap (λ n. in_mask (slice_get c.args.masks.now n) h) (sym same) ∙ is))) (λ less. inv.some k h less is);
    }

pub returns-clause-len : goal.returns-clause-len
returns-clause-len c = c.loop-position.invariant.len

pub returns-clause-some : goal.returns-clause-some
returns-clause-some c k h is =
    let masks = c.args.masks.now in
    elim (cases_lt k (length masks)) [
      | inl below ↦ c.loop-position.invariant.some k h (omega arith) is
      | inr past ↦ true-false (in_mask (slice_get masks k) h) is (ap (λ o. in_mask o h) (slice_get_past masks k past))
    ]
