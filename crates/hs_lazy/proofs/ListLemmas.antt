-- Lists in which one element was replaced.
use Rattle.std.proofs.Common.{◌≡◌, ℕ, zero, suc, ◌<◌, ◌⊎◌, inl, inr, List, [], ◌∷◌, length, Some, slice_get, get_or, refl, sym, ap, ◌∙◌, arith}
use Rattle.std.proofs.Math.ListN.{set}
use Rattle.std.proofs.lemmas.Bool.{cases_eq, cases_lt}
use Rattle.std.proofs.lemmas.List.{get_or-set_same, get_or-set_other, length-set}
use Rattle.std.proofs.lemmas.Option.{slice_get_within, slice_get_past, slice_get-get_or, get_or_from_slice_get}

-- what stands at a place within a list
pub there-at : {A : Type 0} (xs : List A) (i : ℕ) → i < length xs → (x : A) × (slice_get xs i ≡ Some x)
there-at [] i low = absurd (omega (arith, low))
there-at (x ∷ xs) zero low = (x, refl)
there-at (x ∷ xs) (suc i) low = there-at xs i (omega (arith, low))

-- what stands in a list in which one was replaced
pub get-set : {A : Type 0} (xs : List A) (i : ℕ) (y : A) (j : ℕ) (x : A) → i < length xs → slice_get (set xs i y) j ≡ Some x →
    ((j ≡ i) × (x ≡ y)) ⊎ ((j ≡ i → ⊥) × (slice_get xs j ≡ Some x))
get-set xs i y j x low is =
    let within : j < length (set xs i y) = slice_get_within (set xs i y) j x is in
    let what : get_or (set xs i y) j x ≡ x = get_or_from_slice_get (set xs i y) j x x is in
    elim (cases_eq j i) [
      | inl same ↦ inl (same, sym what ∙ (ap (λ n. get_or (set xs i y) n x) same ∙ get_or-set_same xs i y x low))
      | inr other ↦
          inr (other, slice_get-get_or xs j x (omega (arith, within, length-set xs i y)) ∙ ap Some (sym (get_or-set_other xs i j y x other) ∙ what))
    ]

pub set-got : {A : Type 0} (xs : List A) (i : ℕ) (y : A) → i < length xs → slice_get (set xs i y) i ≡ Some y
set-got xs i y low = slice_get-get_or (set xs i y) i y (omega (arith, low, length-set xs i y)) ∙ ap Some (get_or-set_same xs i y y low)

pub set-others : {A : Type 0} (xs : List A) (i : ℕ) (y : A) (j : ℕ) → (j ≡ i → ⊥) → slice_get (set xs i y) j ≡ slice_get xs j
set-others xs i y j other = elim (cases_lt j (length xs)) [
  | inr high ↦ slice_get_past (set xs i y) j (omega (arith, high, length-set xs i y)) ∙ sym (slice_get_past xs j high)
  | inl low ↦
      slice_get-get_or (set xs i y) j y (omega (arith, low, length-set xs i y)) ∙ (ap Some (get_or-set_other xs i j y y other) ∙ sym (slice_get-get_or xs j y low))
]
