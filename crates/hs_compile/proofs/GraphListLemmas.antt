-- Members of lists by their numbers.
use Rattle.std.proofs.Common.{◌≡◌, ℕ, zero, suc, ◌<◌, ◌≤◌, List, [], ◌∷◌, ◌++◌, length, Some, slice_get, refl, ap, ◌∙◌, arith}
use Rattle.std.specs.Prelude.{slice_index}
use Rattle.std.proofs.lemmas.List.{length-append}
use Rattle.std.proofs.Math.Seq.{get_or-append_seam}
use Rattle.hs_base.specs.Lists.{Each}

-- a member of a list is the one that is there
pub get-read : {A : Type 0} (xs : List A) (k : ℕ) → k < length xs → (x : A) × (slice_get xs k ≡ Some x)
get-read [] k below = absurd (omega (arith, below))
get-read (x ∷ xs) zero below = (x, refl)
get-read (x ∷ xs) (suc k) below = get-read xs k (omega (arith, below))

pub length-push : {A : Type 0} (xs : List A) (x : A) → length (xs ++ x ∷ []) ≡ suc (length xs)
length-push xs x = omega (arith, length-append xs (x ∷ []))

-- the number behind a list
pub index-behind : (xs : List ℕ) (x k : ℕ) → k ≡ length xs → slice_index (xs ++ x ∷ []) k ≡ x
index-behind xs x k at = ap (slice_index (xs ++ x ∷ [])) at ∙ get_or-append_seam xs x [] 0

-- a bound of each is one of the number at a place
pub each-index : (bound : ℕ) (xs : List ℕ) → Each (λ x. x ≤ bound) xs → (k : ℕ) → slice_index xs k ≤ bound
each-index bound [] each k = omega arith
each-index bound (x ∷ xs) each zero = each.0
each-index bound (x ∷ xs) each (suc k) = each-index bound xs each.1 k

-- of each by its number
pub each-of_get : {A : Type 0} (P : A → Type 0) (xs : List A) → ((k : ℕ) (x : A) → slice_get xs k ≡ Some x → P x) → Each P xs
each-of_get P [] all = tt
each-of_get P (x ∷ xs) all = (all 0 x refl, each-of_get P xs (λ k y at. all (suc k) y at))
