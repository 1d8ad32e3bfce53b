-- Regions and what is kept of them: where the one has the set of a state, the other has its number, and all else is the
-- same in both.
use Rattle.std.specs.Prelude.{◌≡◌, ℕ, suc, ◌+◌, ◌<◌, ◌==◌, List, [], ◌∷◌, ◌++◌, length, drop}
use Rattle.std.specs.Prelude.{slice_index, slice_range, if◌then◌else◌}
use Rattle.hs_base.specs.declared.context.Prev.{Prev}
use Rattle.hs_base.specs.declared.context.Prev.TheVariants as before
use Rattle.hs_base.specs.Assertions.{line_feed, is_word_byte}
use Rattle.hs_base.specs.Contexts.{prev_by}
use Rattle.hs_base.specs.KeptPieces.{Form, form_size}
use Rattle.hs_base.specs.Lists.{Each}
use Rattle.hs_base.specs.Regions.{Place, Plan, fields_at, list_places, place_size, plan_size, region_offset}
use Rattle.hs_base.specs.Trees.{Tree}
use Rattle.hs_states.specs.DfaStates.{kept_prev}
use Rattle.hs_states.specs.StateSets.{AreSetsOf, prev_of, set_bytes, state_count}
use Rattle.hs_states.specs.declared.state_sets.StateSets.{StateSets}
use Rattle.hs_kept.specs.KeptRegions.{AreKeptForms, KeptForm, field, kept_size, state}
pub use Rattle.hs_kept.specs.StateFields.{end_of}
use Rattle.hs_kept.specs.declared.packing.Packing.{Packing}
use Rattle.hs_kept.specs.declared.packing.StateField.{StateField}

-- ---- which fields

-- Those are the fields of the pieces that are kept by state, in order, where the first piece has its field from byte
-- `at` of a region, and what is kept of it stands from byte `place`.
pub data AreStateFields : List Place → List KeptForm → List StateField → (at place : ℕ) → Type 0 where
  none : {at place : ℕ} → AreStateFields [] [] [] at place
  by_field : {p : Place} {ps : List Place} {form : Form} {forms : List KeptForm} {fs : List StateField}
      {at place : ℕ} → form_size form ≡ place_size p →
      AreStateFields ps forms fs (at + place_size p) (place + place_size p) →
      AreStateFields (p ∷ ps) (field form ∷ forms) fs at place
  by_state : {p : Place} {ps : List Place} {forms : List KeptForm} {fs : List StateField} {f : StateField}
      {at place : ℕ} (tree : Tree) → f.at ≡ at → f.place ≡ place → AreSetsOf f.sets tree →
      AreStateFields ps forms fs (at + place_size p) (suc place) →
      AreStateFields (p ∷ ps) (state tree ∷ forms) (f ∷ fs) at place

-- how many bytes are kept, and how many a region has
abbrev pub packed_size : Packing → ℕ
packed_size packing = packing.size

abbrev pub unpacked_size : Packing → ℕ
unpacked_size packing = packing.region_size

-- The packing is that of the plan's regions.
pub record IsPackingFor (packing : Packing) (plan : Plan) : Type 0 where
  pub forms : List KeptForm
  pub are : AreKeptForms plan forms
  pub size : packed_size packing ≡ kept_size plan forms
  pub region_size : unpacked_size packing ≡ plan_size plan
  pub fields : AreStateFields (list_places plan) forms packing.fields.items
      (fields_at (length plan.singles) (length plan.identifiers))
      (fields_at (length plan.singles) (length plan.identifiers))

-- ---- from what is kept to a region

-- each number is that of a state
abbrev pub AreNumbers : Packing → (kept : List ℕ) → Type 0
AreNumbers packing kept = Each (λ f. slice_index kept f.place < state_count f.sets) packing.fields.items

-- the region from those fields on, for what is kept from byte `place` on
abbrev pub region_from : List StateField → (place : ℕ) → (kept : List ℕ) → List ℕ
region_from [] place kept = drop place kept
region_from (f ∷ fs) place kept =
    slice_range kept place f.place
    ++ (set_bytes f.sets (slice_index kept f.place) ++ region_from fs (suc f.place) kept)

-- the region with the set of each number
abbrev pub unpacked : Packing → (kept : List ℕ) → List ℕ
unpacked packing kept = region_from packing.fields.items 0 kept

-- ---- and back

-- what stands before the next byte, by the offset and the last byte in the history
abbrev pub prev_in : (region : List ℕ) → Prev
prev_in region =
    if region_offset region == 0
    then before.Start
    else prev_by (slice_index region 71 == line_feed) (is_word_byte (slice_index region 71))

-- The number is that of the state with this set and with what stands before, or 0 where there is none.
pub data IsNumberFor (sets : StateSets) (set : List ℕ) (prev : Prev) (number : ℕ) : Type 0 where
  known : number < state_count sets →
      set_bytes sets number ≡ set →
      prev_of sets number ≡ kept_prev sets.has_assertion prev →
      IsNumberFor sets set prev number
  unknown :
      ((n : ℕ) → n < state_count sets → set_bytes sets n ≡ set →
      prev_of sets n ≡ kept_prev sets.has_assertion prev → ⊥) →
      number ≡ 0 →
      IsNumberFor sets set prev number

-- Between those fields, and behind the last one, the same bytes stand from `at` in the region and from `place` in what
-- is kept.
abbrev pub AreAlikeBetween : List StateField → (at place : ℕ) → (region kept : List ℕ) → Type 0
AreAlikeBetween [] at place region kept = drop at region ≡ drop place kept
AreAlikeBetween (f ∷ fs) at place region kept =
    ◌≡◌ (slice_range region at f.at) (slice_range kept place f.place)
    × AreAlikeBetween fs (end_of f) (suc f.place) region kept

-- The region is kept so.
pub record IsPackedOf (packing : Packing) (region kept : List ℕ) : Type 0 where
  pub len : length kept ≡ packed_size packing
  pub same : AreAlikeBetween packing.fields.items 0 0 region kept
  pub numbers :
      Each (λ f. IsNumberFor f.sets (slice_range region f.at (end_of f)) (prev_in region) (slice_index kept f.place))
      packing.fields.items
