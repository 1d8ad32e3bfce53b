-- Numbers grouped by their owners, as ranges of one list.
use Rattle.std.specs.Prelude.{◌≡◌, ℕ, suc, ◌==◌, ◌≤◌, ◌<◌, Bool, false, List, [], ◌∷◌, ◌++◌, length, Option, Some, None}
use Rattle.std.specs.Prelude.{cond, slice_get, slice_index, slice_range}

-- each owner is one of so many
abbrev pub AreOwners : List (Option ℕ) → (count : ℕ) → Type 0
AreOwners owners count = (k p : ℕ) → slice_get owners k ≡ Some (Some p) → p < count

-- whether the owner is the one of that number
abbrev pub is_number : ℕ → Option ℕ → Bool
is_number k None = false
is_number k (Some n) = n == k

-- the numbers, from `at` on, of those with the owner of that number
abbrev pub numbers_with : (owner at : ℕ) → List (Option ℕ) → List ℕ
numbers_with owner at [] = []
numbers_with owner at (p ∷ owners) =
    cond (is_number owner p) (at ∷ numbers_with owner (suc at) owners) (numbers_with owner (suc at) owners)

-- The numbers of those of an owner, rising.
abbrev pub group_of : List (Option ℕ) → ℕ → List ℕ
group_of owners k = numbers_with k 0 owners

-- Of each of so many owners the group: they stand in one list, each from where its owner says to where the next one
-- says.
pub record AreGroups (owners : List (Option ℕ)) (count : ℕ) (starts list : List ℕ) : Type 0 where
  pub count_is : length starts ≡ suc count
  pub first : slice_index starts 0 ≡ 0
  pub last : slice_index starts count ≡ length list
  pub rising : (j k : ℕ) → j ≤ k → k ≤ count → slice_index starts j ≤ slice_index starts k
  pub each : (k : ℕ) → k < count →
      slice_range list (slice_index starts k) (slice_index starts (suc k)) ≡ group_of owners k

-- a list for each of so many owners, of those with that owner
pub record AreLists (owners : List (Option ℕ)) (count : ℕ) (lists : List (List ℕ)) : Type 0 where
  pub count_is : length lists ≡ count
  pub each : (k : ℕ) (list : List ℕ) → slice_get lists k ≡ Some list → list ≡ group_of owners k

-- The number is put behind those in the list of the owner, if there is one; the other lists stay.
pub record IsNumberAdded (before : List (List ℕ)) (owner : Option ℕ) (number : ℕ) (now : List (List ℕ)) : Type 0 where
  pub count : length now ≡ length before
  pub each : (k : ℕ) (list : List ℕ) → slice_get now k ≡ Some list → (own : List ℕ)
      × (slice_get before k ≡ Some own)
      × (list ≡ own ++ cond (is_number k owner) (number ∷ []) [])

-- The lists stand in one, each from where its number says to where the next one says.
pub record AreJoined (lists : List (List ℕ)) (starts joined : List ℕ) : Type 0 where
  pub count : length starts ≡ suc (length lists)
  pub first : slice_index starts 0 ≡ 0
  pub last : slice_index starts (length lists) ≡ length joined
  pub rising : (j k : ℕ) → j ≤ k → k ≤ length lists → slice_index starts j ≤ slice_index starts k
  pub each : (k : ℕ) (list : List ℕ) → slice_get lists k ≡ Some list →
      slice_range joined (slice_index starts k) (slice_index starts (suc k)) ≡ list
