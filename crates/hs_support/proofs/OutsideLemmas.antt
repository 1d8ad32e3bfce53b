-- The least bit that is set and not supported.
use Rattle.std.proofs.Common.{◌≡◌, ℕ, zero, suc, ◌^◌, ◌<◌, ◌⊎◌, refl, sym, ap, ◌∙◌, inl, inr, arith}
use Rattle.std.specs.Int.{bit_at}
use Rattle.std.proofs.lemmas.Bool.{cases_lt, cases_eq}
use Rattle.std.proofs.lemmas.Nat.Bits.{bit_at_above}
use Rattle.hs_support.specs.Support.{IsOutside, IsLeastOutside}

-- Either a bit below the place is outside, and one of those is the least, or none is.
pub least-below : (supported bits n : ℕ) → ((bit : ℕ) × IsLeastOutside supported bits bit) ⊎ ((k : ℕ) → k < n → IsOutside supported bits k → ⊥)
least-below supported bits zero = inr (λ k below outside. absurd (omega arith))
least-below supported bits (suc n) = elim (least-below supported bits n) [
  | inl found ↦ inl found
  | inr none ↦ elim (cases_eq (bit_at bits n) 1) [
    | inl set ↦ elim (cases_eq (bit_at supported n) 0) [
      | inl not_supported ↦ inl (2 ^ n, record { place = n; is = refl; outside = (set, not_supported); least = none })
      | inr is_supported ↦ inr (λ k below outside. elim (cases_lt k n) [
        | inl before ↦ none k before outside
        | inr behind ↦ let here : k ≡ n = omega arith in is_supported (ap (bit_at supported) (sym here) ∙ outside.1)
      ])
    ]
    | inr unset ↦ inr (λ k below outside. elim (cases_lt k n) [
      | inl before ↦ none k before outside
      | inr behind ↦ let here : k ≡ n = omega arith in unset (ap (bit_at bits) (sym here) ∙ outside.0)
    ])
  ]
]

-- bits of so few places of which none below the last is outside have none outside
pub none-beyond : (supported bits n : ℕ) → bits < 2 ^ n → ((k : ℕ) → k < n → IsOutside supported bits k → ⊥) → (k : ℕ) → IsOutside supported bits k → ⊥
none-beyond supported bits n bound none k outside = elim (cases_lt k n) [
  | inl below ↦ none k below outside
  | inr above ↦ let no : bit_at bits k ≡ 0 = bit_at_above bits n k bound above in let set : bit_at bits k ≡ 1 = outside.0 in absurd (omega arith)
]
