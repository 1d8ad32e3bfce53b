-- The members of groups, by their places in the list and by their numbers.
use Rattle.std.proofs.Common.{◌≡◌, ℕ, zero, suc, ◌+◌, ◌-◌, ◌<◌, ◌≤◌, Bool, true, false, cond, List, [], ◌∷◌, length, slice_get, slice_index, slice_range, Option, Some, None, refl, sym, ap, subst, ◌∙◌, inl, inr, arith}
use Rattle.std.proofs.lemmas.Bool.{cases_lt, eq-eqb}
use Rattle.std.proofs.lemmas.Bool.Decides.{nat_tests}
use Rattle.std.proofs.lemmas.Option.{get_or_from_slice_get, slice_get-get_or, slice_get_within}
use Rattle.hs_base.proofs.RegionLemmas.{get-range, range-size}
use Rattle.hs_forest.specs.Groups.{AreGroups, is_number, numbers_with}

-- the owner of a number at a place
pub record HasOwner (owners : List (Option ℕ)) (k at j : ℕ) : Type 0 where
  pub m : ℕ
  pub number : j ≡ at + m
  pub owner : slice_get owners m ≡ Some (Some k)

own-number : (k : ℕ) (p : Option ℕ) → is_number k p ≡ true → p ≡ Some k
own-number k None e = absurd (let f : false ≡ true = e in cc)
own-number k (Some n) e = let same : n ≡ k = grind (arith, nat_tests) in ap Some same

has-later : (owners : List (Option ℕ)) (p : Option ℕ) (k at j : ℕ) → HasOwner owners k (suc at) j → HasOwner (p ∷ owners) k at j
has-later owners p k at j has = record { m = suc has.m; number = omega (arith, has.number); owner = has.owner }

with-first : (k at : ℕ) (p : Option ℕ) (owners : List (Option ℕ)) (b : Bool) → is_number k p ≡ b → ((x j : ℕ) → slice_get (numbers_with k (suc at) owners) x ≡ Some j → HasOwner owners k (suc at) j) →
    (x j : ℕ) → slice_get (cond b (at ∷ numbers_with k (suc at) owners) (numbers_with k (suc at) owners)) x ≡ Some j → HasOwner (p ∷ owners) k at j
with-first k at p owners true own later zero j is =
    let e : at ≡ j = cc in
    record { m = 0; number = omega (arith, e); owner = ap Some (own-number k p own) }
with-first k at p owners true own later (suc x) j is = has-later owners p k at j (later x j is)
with-first k at p owners false own later x j is = has-later owners p k at j (later x j is)

pub with-get : (k at : ℕ) (owners : List (Option ℕ)) (x j : ℕ) → slice_get (numbers_with k at owners) x ≡ Some j → HasOwner owners k at j
with-get k at [] x j is = absurd (cc)
with-get k at (p ∷ owners) x j is = with-first k at p owners (is_number k p) refl (with-get k (suc at) owners) x j is

-- a number is in the group of its owner
abbrev IsIn : List ℕ → ℕ → Type 0
IsIn xs j = (x : ℕ) × (slice_get xs x ≡ Some j)

in-later : (b : Bool) (at j : ℕ) (xs : List ℕ) → IsIn xs j → IsIn (cond b (at ∷ xs) xs) j
in-later true at j xs has = (suc has.0, has.1)
in-later false at j xs has = has

in-first : (b : Bool) (at : ℕ) (xs : List ℕ) → b ≡ true → IsIn (cond b (at ∷ xs) xs) at
in-first true at xs e = (0, refl)
in-first false at xs e = absurd (cc)

pub with-has : (k at : ℕ) (owners : List (Option ℕ)) (m : ℕ) → slice_get owners m ≡ Some (Some k) → IsIn (numbers_with k at owners) (at + m)
with-has k at [] m is = absurd (cc)
with-has k at (p ∷ owners) zero is =
    let e : p ≡ Some k = cc in
    let same : at ≡ at + 0 = omega arith in
    subst (λ n. IsIn (numbers_with k at (p ∷ owners)) n) same
    (in-first (is_number k p) at (numbers_with k (suc at) owners) (ap (is_number k) e ∙ eq-eqb k k refl))
with-has k at (p ∷ owners) (suc m) is =
    let same : suc at + m ≡ at + suc m = omega arith in
    subst (λ n. IsIn (numbers_with k at (p ∷ owners)) n) same (in-later (is_number k p) at (suc at + m) (numbers_with k (suc at) owners) (with-has k (suc at) owners m is))

-- where a member of a group stands in the list
pub record IsListedAt (starts list : List ℕ) (k j : ℕ) : Type 0 where
  pub place : ℕ
  pub low : slice_index starts k ≤ place
  pub high : place < slice_index starts (suc k)
  pub is : slice_index list place ≡ j

-- the group that a place of the list is in
pub record IsGrouped (owners : List (Option ℕ)) (count : ℕ) (starts list : List ℕ) (i : ℕ) : Type 0 where
  pub k : ℕ
  pub known : k < count
  pub low : slice_index starts k ≤ i
  pub high : i < slice_index starts (suc k)
  pub owner : slice_get owners (slice_index list i) ≡ Some (Some k)

module _ (owners : List (Option ℕ)) (count : ℕ) (starts list : List ℕ) (are : AreGroups owners count starts list) where
  within : (k : ℕ) → k ≤ count → slice_index starts k ≤ length list
  within k low = omega (arith, are.rising k count low (omega arith), are.last)

  size : (k : ℕ) → k < count → length (slice_range list (slice_index starts k) (slice_index starts (suc k))) ≡ slice_index starts (suc k) - slice_index starts k
  size k low =
      range-size list (slice_index starts k) (slice_index starts (suc k)) (are.rising k (suc k) (omega arith) (omega (arith, low))) (within (suc k) (omega (arith, low)))

  pub listed : (j k : ℕ) → k < count → slice_get owners j ≡ Some (Some k) → IsListedAt starts list k j
  listed j k low owner =
      let has = with-has k 0 owners j owner in
      let range = slice_range list (slice_index starts k) (slice_index starts (suc k)) in
      let at : slice_get range has.0 ≡ Some (0 + j) = ap (λ xs. slice_get xs has.0) (are.each k low) ∙ has.1 in
      let inside = slice_get_within range has.0 (0 + j) at in
      let room : has.0 < slice_index starts (suc k) - slice_index starts k = omega (arith, inside, size k low) in record {
        place = slice_index starts k + has.0;
        low = omega arith;
        high = omega (arith, room);
        is =
            let read : slice_index range has.0 ≡ 0 + j = get_or_from_slice_get range has.0 (0 + j) 0 at in
            omega (arith, sym (get-range list (slice_index starts k) (slice_index starts (suc k)) has.0 room), read);
      }

  -- a place below the start of a group is in one before it
  find : (n i : ℕ) → n ≤ count → i < slice_index starts n → (k : ℕ) × (k < n) × (slice_index starts k ≤ i) × (i < slice_index starts (suc k))
  find zero i low below = absurd (omega (arith, below, are.first))
  find (suc n) i low below = elim (cases_lt i (slice_index starts n)) [
    | inl less ↦ let own = find n i (omega (arith, low)) less in (own.0, omega (arith, own.1), own.2, own.3)
    | inr more ↦ (n, omega arith, more, below)
  ]

  pub grouped : (i : ℕ) → i < length list → IsGrouped owners count starts list i
  grouped i below =
      let own = find count i (omega arith) (omega (arith, below, are.last)) in
      let k = own.0 in
      let from = slice_index starts k in
      let to = slice_index starts (suc k) in
      let range = slice_range list from to in
      let room : i - from < to - from = omega (arith, own.2, own.3) in
      let there : slice_get range (i - from) ≡ Some (slice_index range (i - from)) = slice_get-get_or range (i - from) 0 (omega (arith, room, size k own.1)) in
      let same : from + (i - from) ≡ i = omega (arith, own.2) in
      let read : slice_index range (i - from) ≡ slice_index list i = get-range list from to (i - from) room ∙ ap (slice_index list) same in
      let has = with-get k 0 owners (i - from) (slice_index range (i - from)) (ap (λ xs. slice_get xs (i - from)) (sym (are.each k own.1)) ∙ there) in record {
        k = k;
        known = own.1;
        low = own.2;
        high = own.3;
        owner = ap (slice_get owners) (omega (arith, has.number, read)) ∙ has.owner;
      }
