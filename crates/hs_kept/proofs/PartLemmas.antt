-- Regions and what is kept of them, piece by piece: the fields of both say the same.
use Rattle.std.proofs.Common.{◌≡◌, ℕ, zero, suc, ◌+◌, ◌-◌, ◌<◌, ◌≤◌, false, List, [], ◌∷◌, ◌++◌, length, map, take, drop, Some, slice_get, slice_range, refl, sym, ap, subst, ◌∙◌, arith}
use Rattle.std.specs.Prelude.{slice_index}
use Rattle.std.specs.List.{AllZip}
use Rattle.std.proofs.lemmas.List.{drop_at}
use Rattle.std.proofs.lemmas.Option.{slice_get_within, same_Some}
use Rattle.std.proofs.Math.Seq.{take-append_seam, take-add}
use Rattle.hs_base.specs.KeptPieces.{Form, form_of, form_size, positions}
use Rattle.hs_base.specs.Regions.{Place, place_form, place_size, sums_from}
use Rattle.hs_base.specs.Trees.{Tree}
use Rattle.hs_base.proofs.RegionLemmas.{drop-drop}
use Rattle.hs_base.proofs.SumLemmas.{sums-low}
use Rattle.hs_states.specs.StateSets.{AreSetsOf, set_width}
use Rattle.hs_kept.specs.KeptRegions.{IsKeptByState, IsKeptForm, by_field, by_state, KeptForm, field, kept_form_size, state}
use Rattle.hs_kept.specs.Packing as packing
use Rattle.hs_kept.specs.Packing.{AreAlikeBetween, AreStateFields, end_of, region_from}
use Rattle.hs_kept.specs.declared.packing.StateField.{StateField}

-- Parts of lists.

pub sub-same : (a b n : ℕ) → b ≡ a + n → b - a ≡ n
sub-same a b n is = omega arith

pub take-take : (n d : ℕ) (xs : List ℕ) → take n (take (n + d) xs) ≡ take n xs
take-take zero d xs = refl
take-take (suc n) d [] = let e : suc n + d ≡ suc (n + d) = omega arith in ap (λ m. take (suc n) (take m [])) e
take-take (suc n) d (x ∷ xs) =
    let e : suc n + d ≡ suc (n + d) = omega arith in
    ap (λ m. take (suc n) (take m (x ∷ xs))) e ∙ ap (λ zs. x ∷ zs) (take-take n d xs)

-- the part is so many bytes behind the first ones
pub range-as : (xs : List ℕ) (a b n : ℕ) → b ≡ a + n → slice_range xs a b ≡ take n (drop a xs)
range-as xs a b n is = ap (λ m. take m (drop a xs)) (sub-same a b n is)

pub range-join : (xs : List ℕ) (a b c : ℕ) → a ≤ b → b ≤ c → slice_range xs a c ≡ slice_range xs a b ++ slice_range xs b c
range-join xs a b c low high =
    let e : c - a ≡ (b - a) + (c - b) = omega arith in
    let e' : a + (b - a) ≡ b = omega arith in
    ap (λ m. take m (drop a xs)) e
    ∙ (take-add (b - a) (c - b) (drop a xs)
    ∙ ap (λ zs. slice_range xs a b ++ take (c - b) zs) (drop-drop a (b - a) xs ∙ ap (λ m. drop m xs) e'))

pub range-none : (xs : List ℕ) (a b : ℕ) → b ≡ a → slice_range xs a b ≡ []
range-none xs a b is = let e : b - a ≡ 0 = omega arith in ap (λ m. take m (drop a xs)) e

pub one-range : (xs : List ℕ) (n m : ℕ) → m ≡ n + 1 → n < length xs → slice_range xs n m ≡ slice_index xs n ∷ []
one-range xs n m is below = range-as xs n m 1 is ∙ first xs n below
  where
    first : (xs : List ℕ) (n : ℕ) → n < length xs → take 1 (drop n xs) ≡ slice_index xs n ∷ []
    first [] n below = absurd (omega arith)
    first (x ∷ xs) zero below = refl
    first (x ∷ xs) (suc n) below = first xs n (omega arith)

-- what begins with a list is cut behind it
pub cut-same : (xs front back : List ℕ) (a b : ℕ) → drop a xs ≡ front ++ back → b ≡ a + length front → slice_range xs a b ≡ front
cut-same xs front back a b is wide = range-as xs a b (length front) wide ∙ (ap (take (length front)) is ∙ take-append_seam front back)

pub cut-rest : (xs front back : List ℕ) (a b : ℕ) → drop a xs ≡ front ++ back → b ≡ a + length front → drop b xs ≡ back
cut-rest xs front back a b is wide =
    ap (λ m. drop m xs) wide ∙ (sym (drop-drop a (length front) xs) ∙ (ap (drop (length front)) is ∙ drop_at front back (length front) refl))

-- Fields stand in the order of the pieces.

-- the next field begins at that place or later, as far behind it in both
abbrev pub IsAhead : List StateField → (at place : ℕ) → Type 0
IsAhead [] at place = Unit {0}
IsAhead (f ∷ fs) at place = (d : ℕ) × (f.at ≡ at + d) × (f.place ≡ place + d)

ahead-more : (fs : List StateField) (at place n : ℕ) → IsAhead fs (at + n) (place + n) → IsAhead fs at place
ahead-more [] at place n is = tt
ahead-more (f ∷ fs) at place n (d, one, other) = (n + d, omega arith, omega arith)

pub ahead : {ps : List Place} {forms : List KeptForm} {fs : List StateField} {at place : ℕ} → AreStateFields ps forms fs at place → IsAhead fs at place
ahead packing.none = tt
ahead (packing.by_field {p = p} {fs = fs} {at = at} {place = place} size rest) = ahead-more fs at place (place_size p) (ahead rest)
ahead (packing.by_state tree one other sets rest) = (0, omega arith, omega arith)

-- The form of a piece that is kept by state.

pub kept-state : (p : Place) (tree : Tree) → IsKeptForm p (state tree) → IsKeptByState p tree
kept-state p tree (by_state _ kept) = kept

pub kept-field : (p : Place) (form : Form) → IsKeptForm p (field form) → form ≡ place_form p
kept-field p form (by_field other) = refl

pub form-of_state : (p : Place) (tree : Tree) → IsKeptByState p tree → place_form p ≡ positions tree
form-of_state p tree is =
    ap (λ b. form_of b p.pieces p.piece) is.ahead ∙ (ap (λ ps. form_of false ps p.piece) is.first ∙ ap (form_of false []) is.expression)

pub width-of_state : (p : Place) (tree : Tree) (f : StateField) → IsKeptByState p tree → AreSetsOf f.sets tree → place_size p ≡ set_width f.sets
width-of_state p tree f is sets = ap form_size (form-of_state p tree is) ∙ sym sets.width

-- What is said of a part of a region and of what is kept of it.

-- the byte is a number of which that holds, with the part of the region
pub record IsStatePart (Q : StateField → List ℕ → ℕ → Type 0) (tree : Tree) (wide kept : List ℕ) : Type 0 where
  pub field : StateField
  pub sets : AreSetsOf field.sets tree
  pub number : ℕ
  pub byte : kept ≡ number ∷ []
  pub is : Q field wide number

abbrev pub IsPartOf : (StateField → List ℕ → ℕ → Type 0) → KeptForm → (wide kept : List ℕ) → Type 0
IsPartOf Q (field form) wide kept = wide ≡ kept
IsPartOf Q (state tree) wide kept = IsStatePart Q tree wide kept

-- the piece of that number and its form, with the bytes where its field and what is kept of it begin
pub record IsPart (ps : List Place) (forms : List KeptForm) (at place k : ℕ) (p : Place) (form : KeptForm) (low begin : ℕ) : Type 0 where
  pub piece : slice_get ps k ≡ Some p
  pub form_is : slice_get forms k ≡ Some form
  pub low_is : slice_get (sums_from at (map place_size ps)) k ≡ Some low
  pub begin_is : slice_get (sums_from place (map kept_form_size forms)) k ≡ Some begin

-- where what is kept of pieces ends
abbrev pub kept_end : ℕ → List KeptForm → ℕ
kept_end place forms = slice_index (sums_from place (map kept_form_size forms)) (length (map kept_form_size forms))

pub kept-low : (place : ℕ) (forms : List KeptForm) → place ≤ kept_end place forms
kept-low place forms = sums-low place (map kept_form_size forms)

-- A step over a field, and one over a set: what holds of the fields that are left holds of those behind it.

abbrev pub FieldStep : (region kept : List ℕ) (Holds : List StateField → ℕ → ℕ → Type 0) → Type 0
FieldStep region kept Holds =
    (fs : List StateField) (at place next end : ℕ) (n : ℕ) → next ≡ at + n → end ≡ place + n → IsAhead fs next end → end ≤ length kept → Holds fs at place →
    (slice_range region at next ≡ slice_range kept place end) × Holds fs next end

abbrev pub StateStep : (region kept : List ℕ) (Holds : List StateField → ℕ → ℕ → Type 0) (Q : StateField → List ℕ → ℕ → Type 0) → Type 0
StateStep region kept Holds Q =
    (f : StateField) (fs : List StateField) (tree : Tree) → AreSetsOf f.sets tree → Holds (f ∷ fs) f.at f.place →
    Q f (slice_range region f.at (end_of f)) (slice_index kept f.place) × Holds fs (end_of f) (suc f.place)

-- By such steps what holds of the fields that are left says of each part what it is.
module _ (region kept : List ℕ) (Holds : List StateField → ℕ → ℕ → Type 0) (Q : StateField → List ℕ → ℕ → Type 0) (field-step : FieldStep region kept Holds)
    (state-step : StateStep region kept Holds Q)
  where
    abbrev Part : Place → KeptForm → (low begin : ℕ) → Type 0
    Part p form low begin = IsPartOf Q form (slice_range region low (low + place_size p)) (slice_range kept begin (begin + kept_form_size form))

    part-as : (q p : Place) (g form : KeptForm) (at low place begin : ℕ) → q ≡ p → g ≡ form → at ≡ low → place ≡ begin → Part q g at place → Part p form low begin
    part-as q p g form at low place begin one two three four part =
        subst (λ x. Part x form low begin) one (subst (λ x. Part q x low begin) two (subst (λ x. Part q g x begin) three (subst (λ x. Part q g at x) four part)))

    at-field : (f : StateField) (fs : List StateField) (at place : ℕ) → f.at ≡ at → f.place ≡ place → Holds (f ∷ fs) at place → Holds (f ∷ fs) f.at f.place
    at-field f fs at place one other holds = subst (λ n. Holds (f ∷ fs) n f.place) (sym one) (subst (λ n. Holds (f ∷ fs) at n) (sym other) holds)

    field-part : (p : Place) (form : Form) (fs : List StateField) (at place : ℕ) → form_size form ≡ place_size p → IsAhead fs (at + place_size p) (place + place_size p) →
        place + place_size p ≤ length kept → Holds fs at place → Part p (field form) at place
    field-part p form fs at place size before within holds =
        (field-step fs at place (at + place_size p) (place + place_size p) (place_size p) refl refl before within holds).0 ∙ ap (λ n. slice_range kept place (place + n)) (sym size)

    state-part : (p : Place) (tree : Tree) (f : StateField) (fs : List StateField) (at place : ℕ) → f.at ≡ at → f.place ≡ place → AreSetsOf f.sets tree → place_size p ≡ set_width f.sets →
        place < length kept → Holds (f ∷ fs) at place → Part p (state tree) at place
    state-part p tree f fs at place one other sets wide within holds =
        let e : end_of f ≡ at + place_size p = omega arith in
        record {
          field = f;
          sets = sets;
          number = slice_index kept place;
          byte = one-range kept place (place + 1) refl within;
          is = subst (λ n. Q f (slice_range region at (at + place_size p)) (slice_index kept n)) other
              (subst (λ n. Q f (slice_range region n (at + place_size p)) (slice_index kept f.place)) one
              (subst (λ n. Q f (slice_range region f.at n) (slice_index kept f.place)) e
              (state-step f fs tree sets (at-field f fs at place one other holds)).0));
        }

    state-next : (p : Place) (tree : Tree) (f : StateField) (fs : List StateField) (at place : ℕ) → f.at ≡ at → f.place ≡ place → AreSetsOf f.sets tree → place_size p ≡ set_width f.sets →
        Holds (f ∷ fs) at place → Holds fs (at + place_size p) (suc place)
    state-next p tree f fs at place one other sets wide holds =
        let e : end_of f ≡ at + place_size p = omega arith in
        subst (λ n. Holds fs n (suc place)) e
        (subst (λ n. Holds fs (end_of f) (suc n)) other (state-step f fs tree sets (at-field f fs at place one other holds)).1)

    pub part-at : {ps : List Place} {forms : List KeptForm} {fs : List StateField} {at place : ℕ} → AreStateFields ps forms fs at place → AllZip IsKeptForm ps forms →
        kept_end place forms ≤ length kept → Holds fs at place → (k : ℕ) (p : Place) (form : KeptForm) (low begin : ℕ) → IsPart ps forms at place k p form low begin → Part p form low begin
    part-at packing.none zip within holds k p form low begin part = absurd (let e : k < 0 = slice_get_within [] k p part.piece in omega arith)
    part-at (packing.by_field {p = q} {ps = ps} {form = g} {forms = forms} {fs = fs} {at = at} {place = place} size rest) zip within holds zero p form low begin part =
        let room : place + form_size g ≤ kept_end (place + form_size g) forms = kept-low (place + form_size g) forms in
        part-as q p (field g) form at low place begin (same_Some q p part.piece) (same_Some (field g) form part.form_is) (same_Some at low part.low_is) (same_Some place begin part.begin_is)
        (field-part q g fs at place size (ahead rest) (omega arith) holds)
    part-at (packing.by_field {p = q} {ps = ps} {form = g} {forms = forms} {fs = fs} {at = at} {place = place} size rest) zip within holds (suc k) p form low begin part =
        let room : place + form_size g ≤ kept_end (place + form_size g) forms = kept-low (place + form_size g) forms in
        let within2 : kept_end (place + place_size q) forms ≤ length kept = subst (λ n. kept_end (place + n) forms ≤ length kept) size within in
        part-at rest zip.1 within2
        (field-step fs at place (at + place_size q) (place + place_size q) (place_size q) refl refl (ahead rest) (omega arith) holds).1
        k p form low begin
        (record {
          piece = part.piece;
          form_is = part.form_is;
          low_is = part.low_is;
          begin_is = subst (λ n. slice_get (sums_from (place + n) (map kept_form_size forms)) k ≡ Some begin) size part.begin_is;
        })
    part-at (packing.by_state {p = q} {ps = ps} {forms = forms} {fs = fs} {f = f} {at = at} {place = place} tree one other sets rest) zip within holds zero p form low begin part =
        let room : place + 1 ≤ kept_end (place + 1) forms = kept-low (place + 1) forms in
        part-as q p (state tree) form at low place begin (same_Some q p part.piece) (same_Some (state tree) form part.form_is) (same_Some at low part.low_is) (same_Some place begin part.begin_is)
        (state-part q tree f fs at place one other sets (width-of_state q tree f (kept-state q tree zip.0) sets) (omega arith) holds)
    part-at (packing.by_state {p = q} {ps = ps} {forms = forms} {fs = fs} {f = f} {at = at} {place = place} tree one other sets rest) zip within holds (suc k) p form low begin part =
        let e : place + 1 ≡ suc place = omega arith in
        part-at rest zip.1 (subst (λ n. kept_end n forms ≤ length kept) e within)
        (state-next q tree f fs at place one other sets (width-of_state q tree f (kept-state q tree zip.0) sets) holds)
        k p form low begin
        (record {
          piece = part.piece;
          form_is = part.form_is;
          low_is = part.low_is;
          begin_is = subst (λ n. slice_get (sums_from n (map kept_form_size forms)) k ≡ Some begin) e part.begin_is;
        })
