-- The bits of bytes that a row was united with.
use Rattle.std.proofs.Common.{◌≡◌, ℕ, ◌/◌, ◌%◌, ◌<◌, ◌≤◌, Bool, true, false, ◌||◌, List, length, get_or, eqb, bit_or, refl, sym, ap, ◌∙◌, inl, inr}
use Rattle.std.specs.Int.{bit_at}
use Rattle.std.proofs.lemmas.Bool.{cases_lt}
use Rattle.std.proofs.lemmas.List.{get_or_past}
use Rattle.std.proofs.lemmas.Nat.Bits.{bit_at-zero}
use Rattle.hs_base.specs.Bits.{has_bit}
use Rattle.hs_base.proofs.ByteSetLemmas.{bit-or}

or-turned : (a b : Bool) → (a || b) ≡ (b || a)
or-turned true true = refl
or-turned true false = refl
or-turned false true = refl
or-turned false false = refl

-- bytes that a row was united with have the bits of both
pub united-bits : (old row new : List ℕ) → ((i : ℕ) → i < length row → get_or new i 0 ≡ bit_or (get_or old i 0) (get_or row i 0)) → ((i : ℕ) → length row ≤ i → get_or new i 0 ≡ get_or old i 0) →
    (k : ℕ) → has_bit new k ≡ (has_bit row k || has_bit old k)
unfolding has_bit
united-bits old row new united kept k =
    elim (cases_lt (k / 8) (length row)) [
      | inl below ↦
          ap (λ n. eqb (bit_at n (k % 8)) 1) (united (k / 8) below)
          ∙ (bit-or (get_or old (k / 8) 0) (get_or row (k / 8) 0) (k % 8)
          ∙ or-turned (eqb (bit_at (get_or old (k / 8) 0) (k % 8)) 1) (eqb (bit_at (get_or row (k / 8) 0) (k % 8)) 1))
      | inr above ↦
          let none : eqb (bit_at (get_or row (k / 8) 0) (k % 8)) 1 ≡ false = ap (λ n. eqb (bit_at n (k % 8)) 1) (get_or_past row (k / 8) 0 above) ∙ ap (λ n. eqb n 1) (bit_at-zero (k % 8)) in
          ap (λ n. eqb (bit_at n (k % 8)) 1) (kept (k / 8) above) ∙ sym (ap (λ b. b || eqb (bit_at (get_or old (k / 8) 0) (k % 8)) 1) none)
    ]
