-- Whether what is kept may stand at an offset, as truth values.
use Rattle.std.proofs.Common.{◌≡◌, ◌↔◌, ℕ, ◌≤◌, Bool, true, false, not, IsTrue, List, length, min, refl, sym, ap, ◌∙◌, inl, inr, arith}
use Rattle.std.proofs.lemmas.Bool.{cases_lt}
use Rattle.hs_base.specs.Bits.{has_bit}
use Rattle.hs_base.specs.RepeatRows.{IsRingAt}
use Rattle.hs_base.proofs.BitLemmas.{bits-past}
use Rattle.hs_bits.specs.BitRanges.{HasBitIn}

false-by : (b : Bool) → (b ≡ true → ⊥) → b ≡ false
false-by true never = absurd (never refl)
false-by false never = refl

not-true : (b : Bool) → not b ≡ true → b ≡ false
not-true true is = absurd (let e : false ≡ true = is in cc)
not-true false is = refl

true-not : (b : Bool) → b ≡ false → not b ≡ true
true-not b is = ap not is

module _ (row : List ℕ) (count at first : ℕ) (wide : length row ≡ 4) (short : count ≤ 32) (is : first ≡ min at count) where
  unset : (HasBitIn row first 32 → ⊥) → (k : ℕ) → first ≤ k → has_bit row k ≡ false
  unset never k above = elim (cases_lt k 32) [
    | inl below ↦ false-by (has_bit row k) (λ set. never (record { bit = k; above = above; below = below; set = set }))
    | inr past ↦ bits-past row k (omega (arith, past, wide))
  ]

  pub row-told : (has : Bool) → (IsTrue has ↔ HasBitIn row first 32) → IsTrue (not has) ↔ IsRingAt count row at
  row-told has law = (
    λ told.
        let never : HasBitIn row first 32 → ⊥ = λ in_it. absurd (let e : false ≡ true = sym (not-true has told) ∙ law.1 in_it in cc) in
        record {
          spare = λ k late. unset never k (omega (arith, late, is));
          early = λ k late. unset never k (omega (arith, late, is));
        },
    λ ring_is. true-not has (false-by has (λ told.
        let in_it = law.0 told in
        elim (cases_lt at count) [
          | inl low ↦ absurd (let e : true ≡ false = sym in_it.set ∙ ring_is.early in_it.bit (omega (arith, in_it.above, is, low)) in cc)
          | inr high ↦ absurd (let e : true ≡ false = sym in_it.set ∙ ring_is.spare in_it.bit (omega (arith, in_it.above, is, high)) in cc)
        ])),
  )
