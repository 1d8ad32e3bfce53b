-- Where what begins at a byte of a region stands in what is kept.
use Rattle.std.proofs.Common.{◌≡◌, ℕ, zero, suc, ◌+◌, ◌-◌, ◌<◌, ◌≤◌, ◌⊎◌, List, [], ◌∷◌, length, Some, get_or, slice_get, refl, sym, ap, subst, ◌∙◌, inl, inr, arith}
use Rattle.std.proofs.lemmas.Bool.{cases_lt, le-leb, lt-leb}
use Rattle.std.proofs.lemmas.Option.{same_Some, slice_get-get_or, slice_get_within}
use Rattle.hs_base.specs.Lists.{Each}
use Rattle.hs_base.proofs.ListLemmas.{each-member, place-member}
use Rattle.hs_kept.specs.Packing.{packed_size, unpacked_size}
use Rattle.hs_kept.specs.Parts.{IsPartIn, between, own, place_from, place_of}
use Rattle.hs_kept.specs.StateFields.{AreFieldsApart, IsFirstFrom, IsNextField, end_of}
use Rattle.hs_kept.specs.declared.packing.Packing.{Packing}
use Rattle.hs_kept.specs.declared.packing.StateField.{StateField}
use Rattle.hs_kept.proofs.FieldLemmas.{apart-get, apart-next, apart-rise, item-there}

-- in front of the first field, and behind it
pub place-before : (f : StateField) (fs : List StateField) (low place at : ℕ) → at ≤ f.at → place_from (f ∷ fs) low place at ≡ place + (at - low)
place-before f fs low place at below = rw (le-leb at f.at below) refl

pub place-behind : (f : StateField) (fs : List StateField) (low place at : ℕ) → f.at < at → place_from (f ∷ fs) low place at ≡ place_from fs (end_of f) (suc f.place) at
place-behind f fs low place at above = rw (lt-leb at f.at above) refl

-- in front of the field that is found
pub place-first : (fs : List StateField) (low place at : ℕ) → IsFirstFrom fs at 0 → place_from fs low place at ≡ place + (at - low)
place-first [] low place at found = refl
place-first (f ∷ fs) low place at found = place-before f fs low place at (found.own f refl)

pub first-behind : (g : StateField) (fs : List StateField) (at k : ℕ) → IsFirstFrom (g ∷ fs) at (suc k) → IsFirstFrom fs at k
first-behind g fs at k found = record {
  within = omega (arith, found.within);
  before = λ j f less there. found.before (suc j) f (omega arith) there;
  own = λ f there. found.own f there;
}

pub place-found : (fs : List StateField) (low place at k : ℕ) (f : StateField) → IsFirstFrom fs at (suc k) → slice_get fs k ≡ Some f →
    place_from fs low place at ≡ suc f.place + (at - end_of f)
place-found [] low place at k f found there = absurd (let e : k < 0 = slice_get_within [] k f there in omega arith)
place-found (g ∷ fs) low place at zero f found there =
    let same : g ≡ f = same_Some g f there in
    place-behind g fs low place at (found.before 0 g (omega arith) refl)
    ∙ (place-first fs (end_of g) (suc g.place) at (first-behind g fs at 0 found) ∙ ap (λ z. suc z.place + (at - end_of z)) same)
place-found (g ∷ fs) low place at (suc k) f found there =
    place-behind g fs low place at (found.before 0 g (omega arith) refl)
    ∙ place-found fs (end_of g) (suc g.place) at k f (first-behind g fs at (suc k) found) there

-- the same for a number that is found, where the field before it is read
pub place-zero : (fs : List StateField) (at number : ℕ) → number ≡ 0 → IsFirstFrom fs at number → at ≡ place_from fs 0 0 at
place-zero fs at number zero_is found =
    let e : at ≡ 0 + (at - 0) = omega arith in
    e ∙ sym (place-first fs 0 0 at (subst (λ n. IsFirstFrom fs at n) zero_is found))

pub place-next : (fs : List StateField) (at number : ℕ) (f : StateField) → 0 < number → IsFirstFrom fs at number → f ≡ get_or fs (number - 1) f →
    place_from fs 0 0 at ≡ suc f.place + (at - end_of f)
place-next fs at number f some found is =
    let e : number ≡ suc (number - 1) = omega arith in
    place-found fs 0 0 at (number - 1) f (subst (λ n. IsFirstFrom fs at n) e found) (item-there fs (number - 1) f (omega (arith, some, found.within)) is)

-- every one of these fields ends up to the first byte, or begins at the second one or behind it
abbrev pub AreAround : (start end : ℕ) → List StateField → Type 0
AreAround start end fs = Each (λ f. (end_of f ≤ start) ⊎ (end ≤ f.at)) fs

-- it is kept within the bytes
between-within : (fs : List StateField) (r s a p start end : ℕ) → AreFieldsApart fs a p r s → a ≤ start → start ≤ end → end ≤ r → AreAround start end fs → place_from fs a p start + (end - start) ≤ s
between-within [] r s a p start end apart behind order within around = omega (arith, apart.0, apart.1, behind, order, within)
between-within (g ∷ fs) r s a p start end apart behind order within around =
    by (cases_lt g.at start) around.0 (λ late. between-within fs r s (end_of g) (suc g.place) start end apart.1.1.1 late order within around.1)
  where
    next : IsNextField g a p r s
    next = apart-next g fs a p r s apart

    some : g.at < end_of g
    some = apart.1.1.0

    by : (g.at < start) ⊎ (start ≤ g.at) → (end_of g ≤ start) ⊎ (end ≤ g.at) → (end_of g ≤ start → place_from fs (end_of g) (suc g.place) start + (end - start) ≤ s) →
        place_from (g ∷ fs) a p start + (end - start) ≤ s
    by (inl above) (inr early) rest = absurd (omega (arith, above, early, order))
    by (inl above) (inl late) rest = subst (λ n. n + (end - start) ≤ s) (sym (place-behind g fs a p start above)) (rest late)
    by (inr below) (inl late) rest = absurd (omega (arith, below, late, some))
    by (inr below) (inr early) rest =
        subst (λ n. n + (end - start) ≤ s) (sym (place-before g fs a p start below))
        (omega (arith, behind, order, early, next.alike, next.behind, next.place_behind, next.place_within))

pub part-within : (packing : Packing) (start end : ℕ) → start ≤ end → end ≤ unpacked_size packing → AreAround start end packing.fields.items →
    place_of packing start + (end - start) ≤ packed_size packing
part-within packing start end order within around =
    between-within packing.fields.items packing.region_size packing.size 0 0 start end packing.apart (omega arith) order within around

-- The first field from a byte on is the one whose set a part is, or the part lies between fields.
module _ (packing : Packing) (start end number : ℕ) (part : IsPartIn packing start end) (found : IsFirstFrom packing.fields.items start number) where
  abbrev fs : List StateField
  fs = packing.fields.items

  -- the field of the part is the one that is found
  same-number : (n : ℕ) (f : StateField) → slice_get fs n ≡ Some f → start ≡ f.at → number ≡ n
  same-number n f there begin = elim (cases_lt n number) [
    | inl less ↦ absurd (let e : f.at < start = found.before n f less there in omega (arith, e, begin))
    | inr from ↦ elim (cases_lt number n) [
      | inl less ↦
          let below : n < length fs = slice_get_within fs n f there in
          let g : StateField = get_or fs number f in
          let there' : slice_get fs number ≡ Some g = slice_get-get_or fs number f (omega (arith, less, below)) in
          let rise : end_of g ≤ f.at = apart-rise fs 0 0 packing.region_size packing.size number n g f packing.apart less there' there in
          let some : g.at < end_of g = (apart-get fs 0 0 packing.region_size packing.size number g packing.apart there').some in
          let above : start ≤ g.at = found.own g there' in
          absurd (omega (arith, rise, some, above, begin))
      | inr until ↦ omega (arith, from, until)
    ]
  ]

  pub is-own : (f : StateField) → slice_get fs number ≡ Some f → f.at < end → (start ≡ f.at) × (end ≡ end_of f)
  is-own f there inside = by part
    where
      by : IsPartIn packing start end → (start ≡ f.at) × (end ≡ end_of f)
      by (own n g there' begin end_is) =
          let same : g ≡ f = same_Some g f (sym there' ∙ (ap (λ k. slice_get fs k) (sym (same-number n g there' begin)) ∙ there)) in
          (begin ∙ ap (λ z. z.at) same, end_is ∙ ap (λ z. end_of z) same)
      by (between order within around) =
          let some : f.at < end_of f = (apart-get fs 0 0 packing.region_size packing.size number f packing.apart there).some in
          let above : start ≤ f.at = found.own f there in
          elim (each-member (λ g. (end_of g ≤ start) ⊎ (end ≤ g.at)) fs f around (place-member fs f number there)) [
            | inl late ↦ absurd (omega (arith, late, some, above))
            | inr early ↦ absurd (omega (arith, early, inside))
          ]

  pub is-between : ((f : StateField) → slice_get fs number ≡ Some f → end ≤ f.at) →
      (start ≤ end) × (end ≤ unpacked_size packing) × AreAround start end fs
  is-between outside = by part
    where
      by : IsPartIn packing start end → (start ≤ end) × (end ≤ unpacked_size packing) × AreAround start end fs
      by (between order within around) = (order, within, around)
      by (own n g there begin end_is) =
          let there' : slice_get fs number ≡ Some g = ap (λ k. slice_get fs k) (same-number n g there begin) ∙ there in
          let early : end ≤ g.at = outside g there' in
          let some : g.at < end_of g = (apart-get fs 0 0 packing.region_size packing.size n g packing.apart there).some in
          absurd (omega (arith, early, some, end_is))
