-- What is unpacked and packed so far, where the fields are taken one by one or in groups.
use Rattle.std.specs.Prelude.{◌≡◌, ℕ, ◌<◌, List, ◌++◌, length, drop, take, slice_index, slice_range}
use Rattle.hs_base.specs.declared.context.Prev.{Prev}
use Rattle.hs_base.specs.Lists.{Each}
use Rattle.hs_states.specs.StateSets.{state_count}
use Rattle.hs_kept.specs.StateFields.{AreFieldsApart, end_of}
use Rattle.hs_kept.specs.Packing.{AreAlikeBetween, IsNumberFor, region_from, unpacked}
use Rattle.hs_kept.specs.Rests.{IsAtRest}
use Rattle.hs_kept.specs.declared.packing.Packing.{Packing}
use Rattle.hs_kept.specs.declared.packing.StateField.{StateField}

-- The fields from number `i` on are left, which lie behind byte `at` of a region and byte `place` of what is kept.
pub record AreLeftFrom (packing : Packing) (i at place : ℕ) : Type 0 where
  pub apart : AreFieldsApart (drop i packing.fields.items) at place packing.region_size packing.size
  pub rests : (prev : Prev) (row : List ℕ) → IsAtRest packing.fields.items 0 prev row →
      IsAtRest (drop i packing.fields.items) place prev row

-- The first `at` bytes of the region are made.
pub record IsUnpackedTo (packing : Packing) (kept : List ℕ) (i at place : ℕ) (region : List ℕ) : Type 0 where
  pub len : length region ≡ packing.region_size
  pub left : AreLeftFrom packing i at place
  pub numbers : Each (λ f. slice_index kept f.place < state_count f.sets) (drop i packing.fields.items)
  pub made : take at region ++ region_from (drop i packing.fields.items) place kept ≡ unpacked packing kept

-- what is kept at the field is the number for its set in the region
abbrev pub IsNumbered : (region : List ℕ) (prev : Prev) (kept : List ℕ) → StateField → Type 0
IsNumbered region prev kept f = IsNumberFor f.sets (slice_range region f.at (end_of f)) prev (slice_index kept f.place)

-- The first `place` bytes are kept: with whatever may stand behind, all fields are packed if those that are left are.
pub record IsPackedUpTo (fields left : List StateField) (at place : ℕ) (region : List ℕ) (prev : Prev) (kept : List ℕ)
    : Type 0 where
  pub same : (whole : List ℕ) → take place whole ≡ take place kept → AreAlikeBetween left at place region whole →
      AreAlikeBetween fields 0 0 region whole
  pub numbers : (whole : List ℕ) → take place whole ≡ take place kept → Each (IsNumbered region prev whole) left →
      Each (IsNumbered region prev whole) fields

-- The first `place` bytes are made of what is kept.
pub record IsPackedTo (packing : Packing) (region : List ℕ) (prev : Prev) (i at place : ℕ) (kept : List ℕ)
    : Type 0 where
  pub len : length kept ≡ packing.size
  pub left : AreLeftFrom packing i at place
  pub packed : IsPackedUpTo packing.fields.items (drop i packing.fields.items) at place region prev kept
