-- Numbers that rise, each once, and how one of them is found.
use Rattle.std.proofs.Common.{◌≡◌, ℕ, suc, ◌<◌, ◌≤◌, Bool, true, false, ◌==◌, List, [], ◌∷◌, length, eqb, get_or, slice_get, Some, Result, Ok, Err, refl, sym, ap, ◌∙◌, inl, inr, arith}
use Rattle.std.specs.Result.{is_ok}
use Rattle.std.specs.List.{Contains, dedup, AllByRecursion}
use Rattle.std.specs.List.Sorted.{IsPermutation, IsStrictlyIncreasing, IsStrictlySortedBy, IsBinarySearchResult}
use Rattle.std.specs.Ordering.{nat_cmp}
use Rattle.std.specs.declared.cmp.Ordering.TheVariants.{Less}
use Rattle.std.proofs.lemmas.Bool.{cases_Bool, cases_lt, or_cases, eqb-true, eq-eqb, false≢true}
use Rattle.std.proofs.lemmas.Option.{slice_get_within, slice_get_read, slice_get-get_or, get_or_from_slice_get}
use Rattle.std.proofs.lemmas.List.Kept.{Contains-dedup_nat, Contains-from_dedup}
use Rattle.std.proofs.lemmas.List.Sorted.{Contains-permutation, IsPermutation-sym, searched}
use Rattle.std.proofs.lemmas.Map.Keys.{sorted_from_strictly_increasing, non_decreasing_from_sorted, sorted_head, sorted_tail, any_passes_from_place}
use Rattle.std.proofs.lemmas.Bool.Decides.{nat_tests}
use Rattle.hs_base.specs.Lists.{Each, IsMember}
use Rattle.hs_base.specs.Settling.{AreRising}
use Rattle.hs_rose.specs.Identifiers.{has_id}

-- two truth values are the same where each holds with the other
pub same-truth : (a b : Bool) → (a ≡ true → b ≡ true) → (b ≡ true → a ≡ true) → a ≡ b
same-truth true b to from = sym (to refl)
same-truth false true to from = from refl
same-truth false false to from = refl

-- a number of the list has a place in it
pub has_id-place : (ids : List ℕ) (id : ℕ) → has_id ids id ≡ true → (k : ℕ) × (slice_get ids k ≡ Some id)
has_id-place [] id has = absurd (false≢true has)
has_id-place (x ∷ xs) id has =
    elim (or_cases (x == id) (has_id xs id) has) [
      | inl here ↦ (0, ap Some (eqb-true x id here))
      | inr there ↦ let (k, at) = has_id-place xs id there in (suc k, at)
    ]

-- what has a place in the list is a number of it
pub place-has_id : (ids : List ℕ) (k id : ℕ) → slice_get ids k ≡ Some id → has_id ids id ≡ true
place-has_id ids k id at = any_passes_from_place (λ n. n == id) ids k id at (eq-eqb id id refl)

contains-has_id : (ids : List ℕ) (id : ℕ) → Contains ids id → has_id ids id ≡ true
contains-has_id ids id (k, within, at) = place-has_id ids k id (slice_get_read ids (length ids) k id refl within (sym at))

has_id-contains : (ids : List ℕ) (id : ℕ) → has_id ids id ≡ true → Contains ids id
has_id-contains ids id has =
    let (k, at) = has_id-place ids id has in
    (k, slice_get_within ids k id at, get_or_from_slice_get ids k id id at)

-- sorted, and then each once: the same numbers
pub same-ids : (ids sorted : List ℕ) (id : ℕ) → IsPermutation ids sorted → has_id (dedup eqb sorted) id ≡ has_id ids id
same-ids ids sorted id moved =
    same-truth (has_id (dedup eqb sorted) id) (has_id ids id)
    (λ has. contains-has_id ids id (Contains-permutation sorted ids id (IsPermutation-sym ids sorted moved) (Contains-from_dedup eqb sorted id (has_id-contains (dedup eqb sorted) id has))))
    (λ has. contains-has_id (dedup eqb sorted) id (Contains-dedup_nat sorted id (Contains-permutation ids sorted id moved (has_id-contains ids id has))))

member-of_has_id : (ids : List ℕ) (id : ℕ) → has_id ids id ≡ true → IsMember id ids
member-of_has_id [] id has = absurd (false≢true has)
member-of_has_id (x ∷ xs) id has =
    elim (or_cases (x == id) (has_id xs id) has) [
      | inl here ↦ inl (sym (eqb-true x id here))
      | inr there ↦ inr (member-of_has_id xs id there)
    ]

-- a number of the list is a member of it
pub has_id-member : (ids : List ℕ) (id : ℕ) → has_id ids id ≡ true → IsMember id ids
has_id-member = member-of_has_id

less-below : (a b : ℕ) → nat_cmp a b ≡ Less → a < b
less-below a b less = grind (arith, nat_tests)

each-above : (x : ℕ) (xs : List ℕ) → AllByRecursion (λ y. nat_cmp x y ≡ Less) xs → Each (λ y. x < y) xs
each-above x [] all = tt
each-above x (y ∷ ys) all = (less-below x y all.0, each-above x ys all.1)

rising-from_sorted : (ids : List ℕ) → IsStrictlySortedBy nat_cmp ids → AreRising ids
rising-from_sorted [] sorted = tt
rising-from_sorted (x ∷ xs) sorted =
    (each-above x xs (sorted_head nat_cmp x xs sorted), rising-from_sorted xs (sorted_tail nat_cmp x xs sorted))

-- each number is below all later ones
pub rising-from_increasing : (ids : List ℕ) → IsStrictlyIncreasing ids → AreRising ids
rising-from_increasing ids increasing = rising-from_sorted ids (sorted_from_strictly_increasing ids increasing)

in_order : (ids : List ℕ) → IsStrictlyIncreasing ids → (i j : ℕ) → i ≤ j → j < length ids → get_or ids i 0 ≤ get_or ids j 0
in_order ids increasing i j order within =
    non_decreasing_from_sorted ids (sorted_from_strictly_increasing ids increasing) i j 0 order within

-- what a search among them finds
pub found-place : (ids : List ℕ) (id place : ℕ) → IsStrictlyIncreasing ids → IsBinarySearchResult (λ y. nat_cmp y id) ids (Ok place) → slice_get ids place ≡ Some id
found-place ids id place increasing position =
    let (within, at) = searched ids id (Ok place) position (in_order ids increasing) in
    let here : slice_get ids place ≡ Some (get_or ids place 0) = slice_get-get_or ids place 0 within in
    here ∙ ap Some at

-- what it doesn't find isn't there
pub found-nothing : (ids : List ℕ) (id place : ℕ) → IsStrictlyIncreasing ids → IsBinarySearchResult (λ y. nat_cmp y id) ids (Err place) → has_id ids id ≡ true → ⊥
found-nothing ids id place increasing position has =
    let (k, at) = has_id-place ids id has in
    let (bound, below, above) = searched ids id (Err place) position (in_order ids increasing) in
    let here : get_or ids k 0 ≡ id = get_or_from_slice_get ids k id 0 at in
    let within : k < length ids = slice_get_within ids k id at in
    elim (cases_lt k place) [
      | inl before ↦ let under : get_or ids k 0 < id = below k before in omega arith
      | inr behind ↦ let over : id < get_or ids k 0 = above k behind within in omega arith
    ]

-- a search finds exactly the numbers of the list
pub found-has_id : (ids : List ℕ) (id : ℕ) (answer : Result ℕ ℕ) → IsStrictlyIncreasing ids → IsBinarySearchResult (λ y. nat_cmp y id) ids answer → is_ok answer ≡ has_id ids id
found-has_id ids id (Ok place) increasing position =
    sym (place-has_id ids place id (found-place ids id place increasing position))
found-has_id ids id (Err place) increasing position =
    elim (cases_Bool (has_id ids id)) [
      | inl has ↦ absurd (found-nothing ids id place increasing position has)
      | inr lacks ↦ sym lacks
    ]
