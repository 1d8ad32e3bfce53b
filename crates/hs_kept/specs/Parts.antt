-- Parts of a region, without the whole of it: where they stand in what is kept.
use Rattle.std.specs.Prelude.{◌≡◌, ◌⊎◌, ℕ, suc, ◌+◌, ◌-◌, ◌<◌, ◌≤◌, nat_le, List, [], ◌∷◌, Some, slice_get}
use Rattle.std.specs.Prelude.{slice_index, if◌then◌else◌}
use Rattle.hs_base.specs.Lists.{Each}
use Rattle.hs_states.specs.StateSets.{state_count}
use Rattle.hs_kept.specs.Packing.{end_of, unpacked_size}
use Rattle.hs_kept.specs.declared.packing.Packing.{Packing}
use Rattle.hs_kept.specs.declared.packing.StateField.{StateField}

-- From one byte of a region to before the other stands the set of one field, or no byte of such a set.
pub data IsPartIn (packing : Packing) (start end : ℕ) : Type 0 where
  own : (number : ℕ) (f : StateField) →
      slice_get packing.fields.items number ≡ Some f →
      start ≡ f.at →
      end ≡ end_of f →
      IsPartIn packing start end
  between : start ≤ end →
      end ≤ unpacked_size packing →
      Each (λ f. (end_of f ≤ start) ⊎ (end ≤ f.at)) packing.fields.items →
      IsPartIn packing start end

-- each field that begins before that byte of a region has the number of a state
abbrev pub AreNumbersBefore : Packing → (kept : List ℕ) (at : ℕ) → Type 0
AreNumbersBefore packing kept at =
    Each (λ f. f.at < at → slice_index kept f.place < state_count f.sets) packing.fields.items

-- The first field that has the number of no state begins at that byte of a region, and its number is that byte of what
-- is kept.
pub record IsNumberFault (packing : Packing) (kept : List ℕ) (at place : ℕ) : Type 0 where
  pub number : ℕ
  pub f : StateField
  pub there : slice_get packing.fields.items number ≡ Some f
  pub begin : f.at ≡ at
  pub begin_kept : f.place ≡ place
  pub before : AreNumbersBefore packing kept at
  pub breaks : state_count f.sets ≤ slice_index kept f.place

-- where what stands from that byte of a region on is kept, from those fields on, where byte `low` of the region is kept
-- at byte `place`
abbrev pub place_from : List StateField → (low place at : ℕ) → ℕ
place_from [] low place at = place + (at - low)
place_from (f ∷ fs) low place at =
    if nat_le at f.at
    then place + (at - low)
    else place_from fs (end_of f) (suc f.place) at

-- where it is kept
abbrev pub place_of : Packing → (at : ℕ) → ℕ
place_of packing at = place_from packing.fields.items 0 0 at
