-- Fields with the number of a state lie apart, in a region and in what is kept of it.
use Rattle.std.specs.Prelude.{◌≡◌, ℕ, suc, ◌+◌, ◌<◌, ◌≤◌, List, [], ◌∷◌, length, Some, slice_get}
use Rattle.std.specs.Coded.{×_prop, le_prop}
use Rattle.std.proofs.Math.Nat.{ℕ_set}
use Rattle.hs_states.specs.StateSets.{set_width}
use Rattle.hs_kept.specs.declared.packing.StateField.{StateField}

-- where the set ends in a region
abbrev pub end_of : StateField → ℕ
end_of f = f.at + set_width f.sets

-- From byte `at` of a region and byte `place` of what is kept on the fields, which have bytes, lie one behind the
-- other, between them as many bytes in the one as in the other, and so behind the last one, up to where the two end.
abbrev pub AreFieldsApart : List StateField → (at place region_size size : ℕ) → Type 0
AreFieldsApart [] at place region_size size = (place ≤ size) × (at + size ≡ place + region_size)
AreFieldsApart (f ∷ fs) at place region_size size =
    (at ≤ f.at)
    × ((f.at + place ≡ at + f.place)
    × ((f.at < end_of f) × AreFieldsApart fs (end_of f) (suc f.place) region_size size))

-- of which there is one proof at most
pub apart-prop :
    (fs : List StateField) (at place region_size size : ℕ) → IsProp (AreFieldsApart fs at place region_size size)
apart-prop [] at place region_size size = ×_prop le_prop (ℕ_set (at + size) (place + region_size))
apart-prop (f ∷ fs) at place region_size size =
    ×_prop le_prop
    (×_prop (ℕ_set (f.at + place) (at + f.place))
    (×_prop le_prop (apart-prop fs (end_of f) (suc f.place) region_size size)))

-- The field lies behind byte `at` of a region and byte `place` of what is kept, equally far, and within both.
pub record IsNextField (f : StateField) (at place region_size size : ℕ) : Type 0 where
  pub behind : at ≤ f.at
  pub place_behind : place ≤ f.place
  pub alike : f.at + place ≡ at + f.place
  pub within : end_of f ≤ region_size
  pub place_within : f.place < size

-- The first field that begins at byte `at` of a region or behind it; or how many there are.
pub record IsFirstFrom (fs : List StateField) (at number : ℕ) : Type 0 where
  pub within : number ≤ length fs
  pub before : (j : ℕ) (f : StateField) → j < number → slice_get fs j ≡ Some f → f.at < at
  pub own : (f : StateField) → slice_get fs number ≡ Some f → at ≤ f.at
