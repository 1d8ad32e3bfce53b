-- The pieces of a plan in a region and in what is kept of it, by their numbers.
use Rattle.std.proofs.Common.{◌≡◌, ◌⊎◌, ℕ, zero, suc, ◌+◌, ◌-◌, ◌<◌, ◌≤◌, nat_le, List, [], ◌∷◌, map, Some, slice_get, if◌then◌else◌, refl, sym, ap, subst, ◌∙◌, inl, inr, arith}
use Rattle.std.specs.List.{AllZip}
use Rattle.std.proofs.lemmas.Bool.{le-leb, lt-leb}
use Rattle.std.proofs.lemmas.Option.{slice_get_within, same_Some}
use Rattle.hs_base.specs.KeptPieces.{Form, form_size}
use Rattle.hs_base.specs.Lists.{Each}
use Rattle.hs_base.specs.Regions.{Place, place_size, sums_from}
use Rattle.hs_base.specs.Trees.{Tree}
use Rattle.hs_base.specs.WrittenOut.{count, write_out}
use Rattle.hs_states.specs.StateSets.{AreSetsOf, set_width}
use Rattle.hs_kept.specs.KeptRegions.{IsKeptForm, KeptForm, field, kept_form_size, state}
use Rattle.hs_kept.specs.Packing as packing
use Rattle.hs_kept.specs.Packing.{AreStateFields, end_of}
use Rattle.hs_kept.specs.Parts.{AreNumbersBefore, place_from}
use Rattle.hs_kept.specs.declared.packing.Packing.{Packing}
use Rattle.hs_kept.specs.declared.packing.StateField.{StateField}
use Rattle.hs_kept.proofs.PartLemmas.{IsAhead, IsPart, ahead, kept-state, width-of_state}

-- The piece is kept by its field, of which no byte stands in the set of one of those.
pub record IsBetween (fs : List StateField) (at place : ℕ) (p : Place) (form : Form) (low begin : ℕ) : Type 0 where
  pub size : form_size form ≡ place_size p
  pub above : at ≤ low
  pub from : place_from fs at place low ≡ begin
  pub apart : Each (λ f. (end_of f ≤ low) ⊎ (low + place_size p ≤ f.at)) fs

-- The piece is kept by the number of one of those.
pub record IsOwn (fs : List StateField) (p : Place) (tree : Tree) (low begin : ℕ) : Type 0 where
  pub number : ℕ
  pub f : StateField
  pub there : slice_get fs number ≡ Some f
  pub at_is : f.at ≡ low
  pub place_is : f.place ≡ begin
  pub sets : AreSetsOf f.sets tree
  pub wide : set_width f.sets ≡ place_size p
  pub some : 0 < set_width f.sets

abbrev pub IsAt : List StateField → (at place : ℕ) → Place → KeptForm → (low begin : ℕ) → Type 0
IsAt fs at place p (field form) low begin = IsBetween fs at place p form low begin
IsAt fs at place p (state tree) low begin = IsOwn fs p tree low begin

pub each-map : {A : Type 0} {P Q : A → Type 0} (xs : List A) → ((x : A) → P x → Q x) → Each P xs → Each Q xs
each-map [] f all = tt
each-map (x ∷ xs) f all = (f x all.0, each-map xs f all.1)

-- each field up to one that begins before the bound has the number of a state
pub numbers-up : (packing : Packing) (kept : List ℕ) (bound : ℕ) → AreNumbersBefore packing kept bound → (at : ℕ) → at < bound → AreNumbersBefore packing kept (at + 1)
numbers-up packing kept bound numbers at early = each-map packing.fields.items (λ f number less. number (omega (arith, less, early))) numbers

-- the fields begin there or later
all-behind : {ps : List Place} {forms : List KeptForm} {fs : List StateField} {at place : ℕ} → AreStateFields ps forms fs at place → Each (λ f. at ≤ f.at) fs
all-behind packing.none = tt
all-behind (packing.by_field {p = p} {fs = fs} size rest) = each-map fs (λ f low. omega (arith, low)) (all-behind rest)
all-behind (packing.by_state {fs = fs} tree one other sets rest) = (omega (arith, one), each-map fs (λ f low. omega (arith, low)) (all-behind rest))

-- where a field begins that stands before all of those
pub place-first : (fs : List StateField) (at place : ℕ) → IsAhead fs at place → place_from fs at place at ≡ place
place-first [] at place is = omega arith
place-first (f ∷ fs) at place (d, one, other) =
    rw (le-leb at f.at (omega (arith, one))) (let e : place + (at - at) ≡ place = omega arith in e)

-- behind a field of bytes that are kept as they are
pub place-shift : (fs : List StateField) (at place at' place' n x : ℕ) → at' ≡ at + n → place' ≡ place + n → at' ≤ x → place_from fs at' place' x ≡ place_from fs at place x
place-shift [] at place at' place' n x one other low = omega (arith, one, other, low)
place-shift (f ∷ fs) at place at' place' n x one other low =
    let e : place' + (x - at') ≡ place + (x - at) = omega (arith, one, other, low) in
    ap (λ m. if nat_le x f.at then m else place_from fs (end_of f) (suc f.place) x) e

module _ (q : Place) (ps : List Place) (forms : List KeptForm) (f : StateField) (fs : List StateField) (at place : ℕ) (tree : Tree) (one : f.at ≡ at) (other : f.place ≡ place) (sets : AreSetsOf f.sets tree) (kept : IsKeptForm q (state tree)) where
  wide : set_width f.sets ≡ place_size q
  wide = sym (width-of_state q tree f (kept-state q tree kept) sets)

  some : 0 < set_width f.sets
  some = let c : 0 < count (write_out tree) = (kept-state q tree kept).some in omega (arith, sets.width, c)

  behind : (x : ℕ) → f.at < x → place_from (f ∷ fs) at place x ≡ place_from fs (end_of f) (suc f.place) x
  behind x above = rw (lt-leb x f.at above) refl

  own-first : IsOwn (f ∷ fs) q tree at place
  own-first = record { number = 0; f = f; there = refl; at_is = one; place_is = other; sets = sets; wide = wide; some = some }

  own-more : (p : Place) (tree' : Tree) (low begin : ℕ) → IsOwn fs p tree' low begin → IsOwn (f ∷ fs) p tree' low begin
  own-more p tree' low begin own =
      record { number = suc own.number; f = own.f; there = own.there; at_is = own.at_is; place_is = own.place_is; sets = own.sets; wide = own.wide; some = own.some }

  between-more : (p : Place) (form : Form) (low begin : ℕ) → IsBetween fs (at + place_size q) (suc place) p form low begin → IsBetween (f ∷ fs) at place p form low begin
  between-more p form low begin is =
      let e : end_of f ≡ at + place_size q = omega (arith, one, wide) in
      record {
        size = is.size;
        above = omega (arith, is.above);
        from =
            behind low (omega (arith, is.above, one, wide, some))
            ∙ (ap (λ m. place_from fs m (suc f.place) low) e ∙ (ap (λ m. place_from fs (at + place_size q) (suc m) low) other ∙ is.from));
        apart = (inl (omega (arith, e, is.above)), is.apart);
      }

  at-more : (p : Place) (form : KeptForm) (low begin : ℕ) → IsAt fs (at + place_size q) (suc place) p form low begin → IsAt (f ∷ fs) at place p form low begin
  at-more p (field form) low begin is = between-more p form low begin is
  at-more p (state tree') low begin is = own-more p tree' low begin is

between-shift : (fs : List StateField) (at place n : ℕ) (p : Place) (form : Form) (low begin : ℕ) → IsBetween fs (at + n) (place + n) p form low begin → IsBetween fs at place p form low begin
between-shift fs at place n p form low begin is = record {
  size = is.size;
  above = omega (arith, is.above);
  from = sym (place-shift fs at place (at + n) (place + n) n low refl refl is.above) ∙ is.from;
  apart = is.apart;
}

at-shift : (fs : List StateField) (at place n : ℕ) (p : Place) (form : KeptForm) (low begin : ℕ) → IsAt fs (at + n) (place + n) p form low begin → IsAt fs at place p form low begin
at-shift fs at place n p (field form) low begin is = between-shift fs at place n p form low begin is
at-shift fs at place n p (state tree) low begin is = is

at-as : (fs : List StateField) (at place : ℕ) (q p : Place) (g form : KeptForm) (low begin : ℕ) → q ≡ p → g ≡ form → at ≡ low → place ≡ begin → IsAt fs at place q g at place → IsAt fs at place p form low begin
at-as fs at place q p g form low begin one two three four is =
    subst (λ x. IsAt fs at place x form low begin) one
    (subst (λ x. IsAt fs at place q x low begin) two (subst (λ x. IsAt fs at place q g x begin) three (subst (λ x. IsAt fs at place q g at x) four is)))

-- each piece is kept by its field or by a number
pub piece-at : {ps : List Place} {forms : List KeptForm} {fs : List StateField} {at place : ℕ} → AreStateFields ps forms fs at place → AllZip IsKeptForm ps forms →
    (k : ℕ) (p : Place) (form : KeptForm) (low begin : ℕ) → IsPart ps forms at place k p form low begin → IsAt fs at place p form low begin
piece-at packing.none zip k p form low begin part = absurd (let e : k < 0 = slice_get_within [] k p part.piece in omega arith)
piece-at (packing.by_field {p = q} {ps = ps} {form = g} {forms = forms} {fs = fs} {at = at} {place = place} size rest) zip zero p form low begin part =
    at-as fs at place q p (field g) form low begin (same_Some q p part.piece) (same_Some (field g) form part.form_is) (same_Some at low part.low_is) (same_Some place begin part.begin_is)
    (record {
      size = size;
      above = omega arith;
      from = place-first fs at place (ahead (packing.by_field {p = q} {ps = ps} {form = g} {forms = forms} size rest));
      apart = each-map fs (λ f low. inr low) (all-behind rest);
    })
piece-at (packing.by_field {p = q} {ps = ps} {form = g} {forms = forms} {fs = fs} {at = at} {place = place} size rest) zip (suc k) p form low begin part =
    at-shift fs at place (place_size q) p form low begin
    (piece-at rest zip.1 k p form low begin
    (record {
      piece = part.piece;
      form_is = part.form_is;
      low_is = part.low_is;
      begin_is = subst (λ n. slice_get (sums_from (place + n) (map kept_form_size forms)) k ≡ Some begin) size part.begin_is;
    }))
piece-at (packing.by_state {p = q} {ps = ps} {forms = forms} {fs = fs} {f = f} {at = at} {place = place} tree one other sets rest) zip zero p form low begin part =
    at-as (f ∷ fs) at place q p (state tree) form low begin (same_Some q p part.piece) (same_Some (state tree) form part.form_is) (same_Some at low part.low_is) (same_Some place begin part.begin_is)
    (own-first q ps forms f fs at place tree one other sets zip.0)
piece-at (packing.by_state {p = q} {ps = ps} {forms = forms} {fs = fs} {f = f} {at = at} {place = place} tree one other sets rest) zip (suc k) p form low begin part =
    let e : place + 1 ≡ suc place = omega arith in
    at-more q ps forms f fs at place tree one other sets zip.0 p form low begin
    (piece-at rest zip.1 k p form low begin
    (record {
      piece = part.piece;
      form_is = part.form_is;
      low_is = part.low_is;
      begin_is = subst (λ n. slice_get (sums_from n (map kept_form_size forms)) k ≡ Some begin) e part.begin_is;
    }))

-- The piece that is kept by the number of that field.
pub record HasPiece (ps : List Place) (forms : List KeptForm) (at place : ℕ) (f : StateField) : Type 0 where
  pub k : ℕ
  pub p : Place
  pub tree : Tree
  pub part : IsPart ps forms at place k p (state tree) f.at f.place
  pub sets : AreSetsOf f.sets tree

-- each field is that of a piece
pub field-piece : {ps : List Place} {forms : List KeptForm} {fs : List StateField} {at place : ℕ} → AreStateFields ps forms fs at place → (i : ℕ) (f : StateField) → slice_get fs i ≡ Some f → HasPiece ps forms at place f
field-piece packing.none i f there = absurd (let e : i < 0 = slice_get_within [] i f there in omega arith)
field-piece (packing.by_field {p = q} {ps = ps} {form = g} {forms = forms} {fs = fs} {at = at} {place = place} size rest) i f there =
    let has = field-piece rest i f there in
    record {
      k = suc has.k;
      p = has.p;
      tree = has.tree;
      part = record {
        piece = has.part.piece;
        form_is = has.part.form_is;
        low_is = has.part.low_is;
        begin_is = subst (λ n. slice_get (sums_from (place + n) (map kept_form_size forms)) has.k ≡ Some f.place) (sym size) has.part.begin_is;
      };
      sets = has.sets;
    }
field-piece (packing.by_state {p = q} {ps = ps} {forms = forms} {fs = fs} {f = g} {at = at} {place = place} tree one other sets rest) zero f there =
    let e : g ≡ f = same_Some g f there in
    subst (λ (x : StateField). HasPiece (q ∷ ps) (state tree ∷ forms) at place x) e
    (record {
      k = 0;
      p = q;
      tree = tree;
      part = record { piece = refl; form_is = refl; low_is = low-first; begin_is = begin-first };
      sets = sets;
    })
  where
    low-first : slice_get (sums_from at (map place_size (q ∷ ps))) 0 ≡ Some g.at
    low-first = ap Some (sym one)

    begin-first : slice_get (sums_from place (map kept_form_size (state tree ∷ forms))) 0 ≡ Some g.place
    begin-first = ap Some (sym other)
field-piece (packing.by_state {p = q} {ps = ps} {forms = forms} {fs = fs} {f = g} {at = at} {place = place} tree one other sets rest) (suc i) f there =
    let has = field-piece rest i f there in
    let e : suc place ≡ place + 1 = omega arith in
    record {
      k = suc has.k;
      p = has.p;
      tree = has.tree;
      part = record {
        piece = has.part.piece;
        form_is = has.part.form_is;
        low_is = has.part.low_is;
        begin_is = subst (λ n. slice_get (sums_from n (map kept_form_size forms)) has.k ≡ Some f.place) e has.part.begin_is;
      };
      sets = has.sets;
    }
