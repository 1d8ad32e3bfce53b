use Rattle.std.proofs.Common.{◌≡◌, ◌||◌, ◌&&◌, ◌==◌, not, ℕ, inl, inr, Bool, true, false, slice_index, refl, sym, ap, ◌∙◌, arith}
use Rattle.std.proofs.lemmas.Bool.{cases_lt, eq-eqb, eqb-true}
use Rattle.hs_base.specs.Bits.{has_word_bit}
use Rattle.hs_bits.proofs.ZeroLemmas.{word-zero}
use Rattle.hs_lazy.proofs.IdleLemmas.{owners-more}
use Rattle.hs_lazy.proofs.dfa.insert_owners.Goals as goal

neither : (x y : Bool) → (x || y) ≡ false → (x ≡ false) × (y ≡ false)
neither true y is = absurd (cc)
neither false true is = absurd (cc)
neither false false is = (refl, refl)

unset-not : (b : Bool) → (true && not b) ≡ false → b ≡ true
unset-not true is = refl
unset-not false is = absurd (cc)

silent : (owner byte : ℕ) (was : Bool) → (((owner == owner) && not (byte == 0)) || was) ≡ false → byte ≡ 0
silent owner byte was is =
    eqb-true byte 0 (unset-not (byte == 0) (sym (ap (λ (b : Bool). b && not (byte == 0)) (eq-eqb owner owner refl)) ∙ (neither _ was is).0))

pub loop-place-preserved : goal.loop-place-preserved
loop-place-preserved c = record {
  len = c.put_word_bit.ensures.len ∙ c.loop-place.invariant.len;
  live = owners-more c.args.owners.now c.args.image.now c.loop-place.live c.put_word_bit.new.words c.loop-place.place
      (λ k unset. (neither _ _ (sym (c.put_word_bit.ensures.bits k) ∙ unset)).1)
      (λ unset. silent (slice_index c.args.owners.now c.loop-place.place) (slice_index c.args.image.now c.loop-place.place) (has_word_bit c.loop-place.live (slice_index c.args.owners.now c.loop-place.place))
      (sym (c.put_word_bit.ensures.bits (slice_index c.args.owners.now c.loop-place.place)) ∙ unset))
      c.loop-place.invariant.live;
}

pub returns-then-word_at-eq0-clause-live : goal.returns-then-word_at-eq0-clause-live
returns-then-word_at-eq0-clause-live c i low unset = elim (cases_lt i c.args.at) [
  | inl below ↦ c.requires.live i below unset
  | inr past ↦ word-zero c.args.image.now c.args.at c.word_at.result (λ k. (c.type_inv.image k).fits) c.requires.within c.word_at.ensures.number c.if-word_at-eq0.true i (omega (arith, past)) low
]
