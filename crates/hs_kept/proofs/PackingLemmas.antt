-- What holds of packings of a plan's regions.
use Rattle.std.proofs.Common.{◌≡◌, ℕ, zero, suc, ◌+◌, ◌-◌, ◌<◌, ◌≤◌, List, [], ◌∷◌, ◌++◌, length, map, take, drop, Some, slice_get, slice_range, refl, sym, ap, subst, ◌∙◌, arith, EachIndex, length-append, length-drop}
use Rattle.std.specs.Prelude.{slice_index}
use Rattle.std.specs.List.{AllZip}
use Rattle.std.proofs.lemmas.Option.{same_Some}
use Rattle.hs_base.specs.Contexts.{prev_at}
use Rattle.hs_base.specs.declared.context.Prev.{Prev}
use Rattle.hs_base.specs.KeptPieces.{IsFieldAt, IsKeptAs, positions}
use Rattle.hs_base.specs.Lists.{Each}
use Rattle.hs_base.specs.Regions.{IsPlaced, IsRegion, Place, Plan, list_places, place_form, place_size, plan_fields_at, plan_size, region_offset, sums_from}
use Rattle.hs_base.specs.Trees.{Tree}
use Rattle.hs_base.proofs.BitOnceLemmas.{each-below}
use Rattle.hs_base.proofs.RegionLemmas.{placed-end, range-size}
use Rattle.hs_states.specs.StateSets.{AreSetsOf, set_bytes, set_width, state_count}
use Rattle.hs_states.specs.declared.state_sets.StateSets.{StateSets}
use Rattle.hs_kept.specs.KeptRegions.{AreKeptForms, IsHeaderOf, IsKeptForm, IsKeptPart, IsKeptPartAt, IsKeptPlaced, IsKeptRegion, IsWellKept}
use Rattle.hs_kept.specs.KeptRegions.{KeptForm, field, kept_form_size, kept_size, state}
use Rattle.hs_kept.specs.Packing as packing
use Rattle.hs_kept.specs.Packing.{AreNumbers, AreStateFields, IsNumberFor, IsPackedOf, IsPackingFor, end_of, known, unknown, packed_size, prev_in, region_from, unpacked}
use Rattle.hs_kept.specs.PackingLaws.{KeptUnpacks, PackingsAreSized, RegionsPack, UnpackedHasHeader, UnpacksWell, WellFormedPacksWell, WellKeptUnpacksWell}
use Rattle.hs_kept.specs.declared.packing.Packing.{Packing}
use Rattle.hs_kept.specs.declared.packing.StateField.{StateField}
use Rattle.hs_kept.proofs.HeaderLemmas.{each-front, header-front, header-of_region, header_of-front, offset-front, prev-in}
use Rattle.hs_kept.proofs.KeptLemmas.{as-piece, as-positions, kept-well, parts-by, size-by, well-parts_by}
use Rattle.hs_kept.proofs.PartLemmas.{FieldStep, IsPartOf, StateStep, ahead, cut-same, form-of_state, kept-field, kept-state, kept-low, kept_end, one-range, part-at, range-as, range-none, width-of_state}
use Rattle.hs_kept.proofs.PlacedLemmas.{header-within, kept-form, kept-high, kept-placed, kept-within, wide-placed}
use Rattle.hs_kept.proofs.StatePartLemmas.{byte-field, byte-within, field-byte, first-within, set-bytes_are, set-fits, some-byte}
use Rattle.hs_kept.proofs.StepLemmas.{IsNumberOf, IsSetFor, Packs, Unpacks, field-packs, field-unpacks, from-split, state-packs, state-unpacks}

-- The parts of a region and of what is kept of it.

pub record AreParts (plan : Plan) (forms : List KeptForm) (Q : StateField → List ℕ → ℕ → Type 0) (region kept : List ℕ) : Type 0 where
  pub header : take (plan_fields_at plan) kept ≡ take (plan_fields_at plan) region
  pub part : (k low high begin end : ℕ) (p : Place) (form : KeptForm) → IsPlaced plan k p low high → IsKeptPlaced plan forms k p form begin end →
      IsPartOf Q form (slice_range region low high) (slice_range kept begin end)

module _ (p : Packing) (plan : Plan) (is : IsPackingFor p plan) (kept : List ℕ) (len : length kept ≡ packed_size p) where
  kept-len : length kept ≡ kept_size plan is.forms
  kept-len = len ∙ is.size

  module _ (region : List ℕ) (Holds : List StateField → ℕ → ℕ → Type 0) (Q : StateField → List ℕ → ℕ → Type 0) (field-step : FieldStep region kept Holds) (state-step : StateStep region kept Holds Q)
      (begins : Holds p.fields.items 0 0)
    where
      first-step : (slice_range region 0 (plan_fields_at plan) ≡ slice_range kept 0 (plan_fields_at plan)) × Holds p.fields.items (plan_fields_at plan) (plan_fields_at plan)
      first-step =
          let n : ℕ = plan_fields_at plan in
          let within : n ≤ kept_size plan is.forms = header-within plan is.forms is.are in
          field-step p.fields.items 0 0 n n n (omega arith) (omega arith) (ahead is.fields) (omega (arith, kept-len)) begins

      parts-are : AreParts plan is.forms Q region kept
      parts-are =
          let n : ℕ = plan_fields_at plan in
          record {
            header = sym (range-as kept 0 n n (omega arith)) ∙ (sym first-step.0 ∙ range-as region 0 n n (omega arith));
            part = λ k low high begin end q form placed there.
                let wide : high ≡ low + place_size q = placed-end plan k low high q placed in
                let wide2 : end ≡ begin + kept_form_size form = kept-high plan is.forms is.are k begin end q form there in
                subst (λ m. IsPartOf Q form (slice_range region low m) (slice_range kept begin end)) (sym wide)
                (subst (λ m. IsPartOf Q form (slice_range region low (low + place_size q)) (slice_range kept begin m)) (sym wide2)
                (part-at region kept Holds Q field-step state-step is.fields is.are (omega (arith, kept-len)) first-step.1 k q form low begin
                (record { piece = placed.piece; form_is = there.kept; low_is = placed.begin; begin_is = there.begin })));
          }

  unpacked-parts : AreNumbers p kept → AreParts plan is.forms IsSetFor (unpacked p kept) kept
  unpacked-parts numbers =
      parts-are (unpacked p kept) (Unpacks (unpacked p kept) kept) IsSetFor (field-unpacks (unpacked p kept) kept) (state-unpacks (unpacked p kept) kept) (refl, numbers)

  packed-parts : (region : List ℕ) → IsPackedOf p region kept → AreParts plan is.forms (IsNumberOf (prev_in region)) region kept
  packed-parts region packs =
      parts-are region (Packs region kept (prev_in region)) (IsNumberOf (prev_in region)) (field-packs region kept (prev_in region)) (state-packs region kept (prev_in region))
      (packs.same, packs.numbers)

-- The numbers are those of states, where what is kept may be kept.

numbers-from : {ps : List Place} {forms : List KeptForm} {fs : List StateField} {at place : ℕ} (kept : List ℕ) → AreStateFields ps forms fs at place →
    ((k begin : ℕ) (p : Place) (tree : Tree) → slice_get ps k ≡ Some p → slice_get forms k ≡ Some (state tree) → slice_get (sums_from place (map kept_form_size forms)) k ≡ Some begin →
    (sets : StateSets) → AreSetsOf sets tree → slice_index kept begin < state_count sets) → Each (λ f. slice_index kept f.place < state_count f.sets) fs
numbers-from kept packing.none each = tt
numbers-from kept (packing.by_field {form = form} {forms = forms} {place = place} size rest) each =
    numbers-from kept rest
    (λ k begin p tree piece is there. each (suc k) begin p tree piece is (subst (λ n. slice_get (sums_from (place + n) (map kept_form_size forms)) k ≡ Some begin) (sym size) there))
numbers-from kept (packing.by_state {p = q} {forms = forms} {f = f} {place = place} tree one other sets rest) each =
    let e : suc place ≡ place + 1 = omega arith in (
      subst (λ n. slice_index kept n < state_count f.sets) (sym other) (each 0 place q tree refl refl refl f.sets sets),
      numbers-from kept rest
          (λ k begin p tree2 piece is there. each (suc k) begin p tree2 piece is (subst (λ n. slice_get (sums_from n (map kept_form_size forms)) k ≡ Some begin) e there)),
    )

numbers-are : (p : Packing) (plan : Plan) → IsPackingFor p plan → (kept : List ℕ) → length kept ≡ packed_size p → IsWellKept plan kept → AreNumbers p kept
numbers-are p plan is kept len well = numbers-from kept is.fields (λ k begin q tree piece there start sets are. number k begin q tree piece there start sets are)
  where
    number : (k begin : ℕ) (q : Place) (tree : Tree) → slice_get (list_places plan) k ≡ Some q → slice_get is.forms k ≡ Some (state tree) →
        slice_get (sums_from (plan_fields_at plan) (map kept_form_size is.forms)) k ≡ Some begin → (sets : StateSets) → AreSetsOf sets tree → slice_index kept begin < state_count sets
    number k begin q tree piece there start sets are =
        let (form, low, end, placed) = kept-placed plan is.forms is.are k q piece in
        let same : form ≡ state tree = form-as form placed.kept in
        let same2 : low ≡ begin = low-as low placed.begin in
        let placed2 : IsKeptPlaced plan is.forms k q (state tree) begin end =
        subst (λ n. IsKeptPlaced plan is.forms k q (state tree) n end) same2 (subst (λ f. IsKeptPlaced plan is.forms k q f low end) same placed) in
        let wide : end ≡ begin + 1 = kept-high plan is.forms is.are k begin end q (state tree) placed2 in
        let within : end ≤ kept_size plan is.forms = kept-within plan is.forms is.are k begin end q (state tree) placed2 in
        byte-within sets tree are (slice_range kept begin end) (slice_index kept begin)
        (one-range kept begin end wide (omega (arith, len, is.size)))
        (well-parts_by plan kept is.forms is.are well k begin end q (state tree) placed2)
      where
        form-as : (form : KeptForm) → slice_get is.forms k ≡ Some form → form ≡ state tree
        form-as form other = same_Some form (state tree) (sym other ∙ there)

        low-as : (low : ℕ) → slice_get (sums_from (plan_fields_at plan) (map kept_form_size is.forms)) k ≡ Some low → low ≡ begin
        low-as low other = same_Some low begin (sym other ∙ start)

-- The size and the bytes of what is unpacked.

from-size : {ps : List Place} {forms : List KeptForm} {fs : List StateField} {at place : ℕ} (kept : List ℕ) → AreStateFields ps forms fs at place → AllZip IsKeptForm ps forms →
    kept_end place forms ≡ length kept → Each (λ f. slice_index kept f.place < state_count f.sets) fs →
    at + length (region_from fs place kept) ≡ slice_index (sums_from at (map place_size ps)) (length (map place_size ps))
from-size kept (packing.none {at = at} {place = place}) zip whole numbers = omega (arith, length-drop place kept)
from-size kept (packing.by_field {p = q} {ps = ps} {form = g} {forms = forms} {fs = fs} {at = at} {place = place} size rest) zip whole numbers =
    let end : ℕ = place + place_size q in
    let whole2 : kept_end end forms ≡ length kept = subst (λ n. kept_end (place + n) forms ≡ length kept) size whole in
    let room : end ≤ kept_end end forms = kept-low end forms in
    let e : length (slice_range kept place end) ≡ end - place = range-size kept place end (omega arith) (omega arith) in
    let split : region_from fs place kept ≡ slice_range kept place end ++ region_from fs end kept = from-split fs kept (at + place_size q) place end (ahead rest) (omega arith) in
    let both : length (region_from fs place kept) ≡ length (slice_range kept place end) + length (region_from fs end kept) =
    ap length split ∙ length-append (slice_range kept place end) (region_from fs end kept) in
    let sum : at + length (region_from fs place kept) ≡ (at + place_size q) + length (region_from fs end kept) = omega arith in
    sum ∙ from-size kept rest zip.1 whole2 numbers
from-size kept (packing.by_state {p = q} {ps = ps} {forms = forms} {fs = fs} {f = f} {at = at} {place = place} tree one other sets rest) zip whole numbers =
    let next : place + 1 ≡ suc place = omega arith in
    let whole2 : kept_end (suc place) forms ≡ length kept = subst (λ n. kept_end n forms ≡ length kept) next whole in
    let wide : place_size q ≡ set_width f.sets = width-of_state q tree f (kept-state q tree zip.0) sets in
    let set : List ℕ = set_bytes f.sets (slice_index kept f.place) in
    let e : length set ≡ set_width f.sets = (set-bytes_are f.sets tree sets (slice_index kept f.place) numbers.0).count ∙ sym sets.width in
    let back : List ℕ = region_from fs (suc f.place) kept in
    let split : region_from (f ∷ fs) place kept ≡ set ++ back = ap (λ zs. zs ++ (set ++ back)) (range-none kept place f.place other) in
    let both : length (region_from (f ∷ fs) place kept) ≡ length set + length back = ap length split ∙ length-append set back in
    let same : length back ≡ length (region_from fs (suc place) kept) = ap (λ n. length (region_from fs (suc n) kept)) other in
    let sum : at + length (region_from (f ∷ fs) place kept) ≡ (at + place_size q) + length (region_from fs (suc place) kept) = omega arith in
    sum ∙ from-size kept rest zip.1 whole2 numbers.1

each-append : (xs ys : List ℕ) → Each (λ b. b < 256) xs → Each (λ b. b < 256) ys → Each (λ b. b < 256) (xs ++ ys)
each-append [] ys each other = other
each-append (x ∷ xs) ys each other = (each.0, each-append xs ys each.1 other)

each-drop : (n : ℕ) (xs : List ℕ) → Each (λ b. b < 256) xs → Each (λ b. b < 256) (drop n xs)
each-drop zero xs each = each
each-drop (suc n) [] each = tt
each-drop (suc n) (x ∷ xs) each = each-drop n xs each.1

from-bytes : {ps : List Place} {forms : List KeptForm} {fs : List StateField} {at place : ℕ} (kept : List ℕ) → AreStateFields ps forms fs at place → Each (λ b. b < 256) kept →
    Each (λ f. slice_index kept f.place < state_count f.sets) fs → (start : ℕ) → Each (λ b. b < 256) (region_from fs start kept)
from-bytes kept packing.none small numbers start = each-drop start kept small
from-bytes kept (packing.by_field size rest) small numbers start = from-bytes kept rest small numbers start
from-bytes kept (packing.by_state {fs = fs} {f = f} tree one other sets rest) small numbers start =
    let set : List ℕ = set_bytes f.sets (slice_index kept f.place) in
    each-append (slice_range kept start f.place) (set ++ region_from fs (suc f.place) kept) (each-front (f.place - start) (drop start kept) (each-drop start kept small))
    (each-append set (region_from fs (suc f.place) kept) (set-bytes_are f.sets tree sets (slice_index kept f.place) numbers.0).each (from-bytes kept rest small numbers.1 (suc f.place)))

module _ (p : Packing) (plan : Plan) (is : IsPackingFor p plan) (kept : List ℕ) (len : length kept ≡ packed_size p) (numbers : AreNumbers p kept) where
  unpacked-split : unpacked p kept ≡ slice_range kept 0 (plan_fields_at plan) ++ region_from p.fields.items (plan_fields_at plan) kept
  unpacked-split = from-split p.fields.items kept (plan_fields_at plan) 0 (plan_fields_at plan) (ahead is.fields) (omega arith)

  pub unpacked-size : length (unpacked p kept) ≡ plan_size plan
  unpacked-size =
      let n : ℕ = plan_fields_at plan in
      let within : n ≤ kept_size plan is.forms = header-within plan is.forms is.are in
      let e : length (slice_range kept 0 n) ≡ n - 0 = range-size kept 0 n (omega arith) (omega (arith, len, is.size)) in
      let both : length (unpacked p kept) ≡ length (slice_range kept 0 n) + length (region_from p.fields.items n kept) =
      ap length unpacked-split ∙ length-append (slice_range kept 0 n) (region_from p.fields.items n kept) in
      let sum : length (unpacked p kept) ≡ n + length (region_from p.fields.items n kept) = omega arith in
      sum ∙ from-size kept is.fields is.are (sym (len ∙ is.size)) numbers

  pub unpacked-bytes : Each (λ b. b < 256) kept → Each (λ b. b < 256) (unpacked p kept)
  unpacked-bytes small = from-bytes kept is.fields small numbers 0

-- What is unpacked of a part, and packed.

unpack-part : (q : Place) (form : KeptForm) (wide bytes u : List ℕ) → IsKeptForm q form → IsPartOf IsSetFor form wide bytes → IsKeptPart form q.pieces bytes u → IsKeptAs (place_form q) q.pieces wide u
unpack-part q (field form) wide bytes u is part kept =
    subst (λ f. IsKeptAs f q.pieces wide u) (kept-field q form is) (subst (λ zs. IsKeptAs form q.pieces zs u) (sym part) kept)
unpack-part q (state tree) wide bytes u is part kept =
    as-piece q tree (kept-state q tree is) wide u
    (subst (λ zs. IsKeptAs (positions tree) [] zs u) (sym part.is.1) (byte-field part.field.sets tree part.sets bytes u part.number part.byte kept))

module _ (prev : Prev) where
  pack-part : (q : Place) (form : KeptForm) (wide bytes u : List ℕ) → EachIndex u (λ k. slice_index u k < 256) → prev ≡ prev_at u (length u) → IsKeptForm q form →
      IsPartOf (IsNumberOf prev) form wide bytes → IsKeptAs (place_form q) q.pieces wide u → IsKeptPart form q.pieces bytes u
  pack-part q (field form) wide bytes u small before is part kept =
      subst (λ zs. IsKeptAs form q.pieces zs u) part (subst (λ f. IsKeptAs f q.pieces wide u) (sym (kept-field q form is)) kept)
  pack-part q (state tree) wide bytes u small before is part kept =
      let by = kept-state q tree is in
      field-byte part.field.sets tree part.sets u wide small (as-positions q tree by wide u kept) by.states by.few bytes part.number prev part.byte before part.is

  pack-well : (q : Place) (form : KeptForm) (wide bytes : List ℕ) (offset : ℕ) → IsKeptForm q form → IsPartOf (IsNumberOf prev) form wide bytes →
      IsFieldAt (place_form q) wide offset → IsKeptPartAt form bytes offset
  pack-well q (field form) wide bytes offset is part at =
      subst (λ zs. IsFieldAt form zs offset) part (subst (λ f. IsFieldAt f wide offset) (sym (kept-field q form is)) at)
  pack-well q (state tree) wide bytes offset is part at =
      let by = kept-state q tree is in
      some-byte part.field.sets tree part.sets by.states by.few bytes part.number part.byte (number-of part.field.sets part.sets wide part.number part.is)
    where
      number-of : (sets : StateSets) → AreSetsOf sets tree → (set : List ℕ) (number : ℕ) → IsNumberFor sets set prev number → number < state_count sets
      number-of sets are set number (known below is_set is_prev) = below
      number-of sets are set number (unknown never is_first) = subst (λ n. n < state_count sets) (sym is_first) (first-within sets tree are)

unpack-well : (q : Place) (form : KeptForm) (wide bytes : List ℕ) (offset : ℕ) → IsKeptForm q form → IsPartOf IsSetFor form wide bytes → IsKeptPartAt form bytes offset → IsFieldAt (place_form q) wide offset
unpack-well q (field form) wide bytes offset is part at =
    subst (λ f. IsFieldAt f wide offset) (kept-field q form is) (subst (λ zs. IsFieldAt form zs offset) (sym part) at)
unpack-well q (state tree) wide bytes offset is part at =
    subst (λ f. IsFieldAt f wide offset) (sym (form-of_state q tree (kept-state q tree is)))
    (subst (λ zs. IsFieldAt (positions tree) zs offset) (sym part.is.1) (set-fits tree part.field.sets part.sets part.number offset part.is.0))

well-unpacks : (q : Place) (form : KeptForm) (wide bytes : List ℕ) (offset : ℕ) → IsKeptForm q form → IsPartOf IsSetFor form wide bytes → IsFieldAt (place_form q) wide offset → IsKeptPartAt form bytes offset
well-unpacks q (field form) wide bytes offset is part at =
    subst (λ zs. IsFieldAt form zs offset) part (subst (λ f. IsFieldAt f wide offset) (sym (kept-field q form is)) at)
well-unpacks q (state tree) wide bytes offset is part at =
    let by = kept-state q tree is in
    some-byte part.field.sets tree part.sets by.states by.few bytes part.number part.byte part.is.0

-- The laws.

pub packings-sized : PackingsAreSized
packings-sized p plan is = record { forms = is.forms; are = is.are; size_is = is.size }

sized : (p : Packing) (plan : Plan) (kept : List ℕ) (forms : List KeptForm) → IsPackingFor p plan → AreKeptForms plan forms → length kept ≡ kept_size plan forms → length kept ≡ packed_size p
sized p plan kept forms is are len = len ∙ (size-by plan forms is.forms are is.are ∙ sym is.size)

module _ (p : Packing) (plan : Plan) (u kept : List ℕ) (is : IsPackingFor p plan) (keeps : IsKeptRegion plan u kept) where
  unpacks-len : length kept ≡ packed_size p
  unpacks-len = sized p plan kept keeps.forms is keeps.are keeps.len

  unpacks-numbers : AreNumbers p kept
  unpacks-numbers = numbers-are p plan is kept unpacks-len (kept-well plan u kept keeps)

  unpacks-parts : AreParts plan is.forms IsSetFor (unpacked p kept) kept
  unpacks-parts = unpacked-parts p plan is kept unpacks-len unpacks-numbers

  unpacks-header : IsHeaderOf plan u (unpacked p kept)
  unpacks-header = header_of-front (plan_fields_at plan) kept (unpacked p kept) unpacks-parts.header plan u (omega arith) keeps.header

  unpacks-field : (k low high : ℕ) (q : Place) → IsPlaced plan k q low high → IsKeptAs (place_form q) q.pieces (slice_range (unpacked p kept) low high) u
  unpacks-field k low high q placed =
      let (form, begin, end, there) = kept-placed plan is.forms is.are k q placed.piece in
      unpack-part q form (slice_range (unpacked p kept) low high) (slice_range kept begin end) u (kept-form plan is.forms is.are k begin end q form there)
      (unpacks-parts.part k low high begin end q form placed there) (parts-by plan u kept is.forms is.are keeps k begin end q form there)

  unpacks-region : IsRegion plan u (unpacked p kept)
  unpacks-region = record {
    within = unpacks-header.within;
    len = unpacked-size p plan is kept unpacks-len unpacks-numbers;
    bytes = unpacked-bytes p plan is kept unpacks-len unpacks-numbers keeps.bytes;
    offset = unpacks-header.offset;
    history = unpacks-header.history;
    told = unpacks-header.told;
    here = unpacks-header.here;
    last = unpacks-header.last;
    fields = unpacks-field;
  }

pub kept-unpacks : KeptUnpacks
kept-unpacks p plan u kept is keeps = (unpacks-numbers p plan u kept is keeps, unpacks-region p plan u kept is keeps)

pub regions-pack : RegionsPack
regions-pack p plan u region kept is small small_kept are packs =
    let parts : AreParts plan is.forms (IsNumberOf (prev_in region)) region kept = packed-parts p plan is kept packs.len region packs in
    let header : IsHeaderOf plan u region = header-of_region plan u region are in
    record {
      forms = is.forms;
      are = is.are;
      len = packs.len ∙ is.size;
      bytes = small_kept;
      header = header_of-front (plan_fields_at plan) region kept (sym parts.header) plan u (omega arith) header;
      parts = λ k begin end q form there.
          let (low, high, placed) = wide-placed plan k q there.piece in
          pack-part (prev_in region) q form (slice_range region low high) (slice_range kept begin end) u (λ i below. each-below u small i) (prev-in plan u region header)
          (kept-form plan is.forms is.are k begin end q form there) (parts.part k low high begin end q form placed there) (are.fields k low high q placed);
    }

module _ (p : Packing) (plan : Plan) (kept : List ℕ) (is : IsPackingFor p plan) (small : Each (λ b. b < 256) kept) where
  well-unpacked : IsWellKept plan kept → UnpacksWell p plan kept
  well-unpacked well =
      let len : length kept ≡ packed_size p = sized p plan kept well.forms is well.are well.len in
      let numbers : AreNumbers p kept = numbers-are p plan is kept len well in
      let parts : AreParts plan is.forms IsSetFor (unpacked p kept) kept = unpacked-parts p plan is kept len numbers in
      let region : List ℕ = unpacked p kept in
      let offset : region_offset kept ≡ region_offset region = offset-front (plan_fields_at plan) kept region parts.header (omega arith) in
      record {
        len = len;
        numbers = numbers;
        well = record {
          len = unpacked-size p plan is kept len numbers;
          bytes = unpacked-bytes p plan is kept len numbers small;
          header = header-front (plan_fields_at plan) kept region parts.header (length plan.singles) (length plan.identifiers) (omega arith) well.header;
          fields = λ k low high q placed.
              let (form, begin, end, there) = kept-placed plan is.forms is.are k q placed.piece in
              unpack-well q form (slice_range region low high) (slice_range kept begin end) (region_offset region) (kept-form plan is.forms is.are k begin end q form there)
              (parts.part k low high begin end q form placed there)
              (subst (IsKeptPartAt form (slice_range kept begin end)) offset (well-parts_by plan kept is.forms is.are well k begin end q form there));
        };
      }

  unpacked-well : UnpacksWell p plan kept → IsWellKept plan kept
  unpacked-well unpacks =
      let parts : AreParts plan is.forms IsSetFor (unpacked p kept) kept = unpacked-parts p plan is kept unpacks.len unpacks.numbers in
      let region : List ℕ = unpacked p kept in
      let offset : region_offset kept ≡ region_offset region = offset-front (plan_fields_at plan) kept region parts.header (omega arith) in
      record {
        forms = is.forms;
        are = is.are;
        len = unpacks.len ∙ is.size;
        bytes = small;
        header = header-front (plan_fields_at plan) region kept (sym parts.header) (length plan.singles) (length plan.identifiers) (omega arith) unpacks.well.header;
        parts = λ k begin end q form there.
            let (low, high, placed) = wide-placed plan k q there.piece in
            subst (IsKeptPartAt form (slice_range kept begin end)) (sym offset)
            (well-unpacks q form (slice_range region low high) (slice_range kept begin end) (region_offset region) (kept-form plan is.forms is.are k begin end q form there)
            (parts.part k low high begin end q form placed there) (unpacks.well.fields k low high q placed));
      }

pub well-kept-unpacks-well : WellKeptUnpacksWell
well-kept-unpacks-well p plan kept is small = (well-unpacked p plan kept is small, unpacked-well p plan kept is small)

pub well-formed-packs-well : WellFormedPacksWell
well-formed-packs-well p plan region kept is small well packs =
    let parts : AreParts plan is.forms (IsNumberOf (prev_in region)) region kept = packed-parts p plan is kept packs.len region packs in
    let offset : region_offset kept ≡ region_offset region = offset-front (plan_fields_at plan) kept region parts.header (omega arith) in
    record {
      well = record {
        forms = is.forms;
        are = is.are;
        len = packs.len ∙ is.size;
        bytes = small;
        header = header-front (plan_fields_at plan) region kept (sym parts.header) (length plan.singles) (length plan.identifiers) (omega arith) well.header;
        parts = λ k begin end q form there.
            let (low, high, placed) = wide-placed plan k q there.piece in
            subst (IsKeptPartAt form (slice_range kept begin end)) (sym offset)
            (pack-well (prev_in region) q form (slice_range region low high) (slice_range kept begin end) (region_offset region) (kept-form plan is.forms is.are k begin end q form there)
            (parts.part k low high begin end q form placed there) (well.fields k low high q placed));
      };
      header = parts.header;
    }

pub unpacked-header : UnpackedHasHeader
unpacked-header p plan kept is len =
    let n : ℕ = plan_fields_at plan in
    let within : n ≤ kept_size plan is.forms = header-within plan is.forms is.are in
    let e : length (slice_range kept 0 n) ≡ n - 0 = range-size kept 0 n (omega arith) (omega (arith, len, is.size)) in
    let split : unpacked p kept ≡ slice_range kept 0 n ++ region_from p.fields.items n kept = from-split p.fields.items kept n 0 n (ahead is.fields) (omega arith) in
    sym (range-as (unpacked p kept) 0 n n (omega arith))
    ∙ (cut-same (unpacked p kept) (slice_range kept 0 n) (region_from p.fields.items n kept) 0 n split (omega arith) ∙ range-as kept 0 n n (omega arith))
