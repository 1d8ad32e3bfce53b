-- Parts of what is unpacked: the set of a field, and what lies between fields.
use Rattle.std.proofs.Common.{◌≡◌, ℕ, zero, suc, ◌+◌, ◌-◌, ◌*◌, ◌<◌, ◌≤◌, ◌⊎◌, List, [], ◌∷◌, ◌++◌, length, take, drop, Some, slice_get, slice_range, sym, ap, subst, ◌∙◌, inl, inr, arith}
use Rattle.std.specs.Prelude.{slice_index}
use Rattle.std.proofs.lemmas.Bool.{cases_lt}
use Rattle.std.proofs.lemmas.List.{drop-append-le, drop-drop, drop-take, length-drop, length-take-le, take-append-le, take-take}
use Rattle.std.proofs.lemmas.Option.{same_Some, slice_get_within}
use Rattle.std.proofs.Math.Nat.{mul-le-mul_left}
use Rattle.std.proofs.Math.Seq.{drop-append-add, take-append_seam}
use Rattle.hs_base.specs.Lists.{Each}
use Rattle.hs_base.proofs.RegionLemmas.{range-size}
use Rattle.hs_states.specs.StateSets.{set_bytes, set_width, state_count}
use Rattle.hs_states.specs.declared.state_sets.StateSets.{StateSets}
use Rattle.hs_kept.specs.Packing.{packed_size, region_from, unpacked, unpacked_size}
use Rattle.hs_kept.specs.Parts.{AreNumbersBefore, place_from, place_of}
use Rattle.hs_kept.specs.StateFields.{AreFieldsApart, IsNextField, end_of}
use Rattle.hs_kept.specs.declared.packing.Packing.{Packing}
use Rattle.hs_kept.specs.declared.packing.StateField.{StateField}
use Rattle.hs_kept.proofs.FieldLemmas.{IsApart, apart-get, apart-next}
use Rattle.hs_kept.proofs.PlaceLemmas.{AreAround, place-before, place-behind}

-- a part within the front of a list
front-part : (zs ys : List ℕ) (n i m : ℕ) → i + m ≤ n → n ≤ length zs → take m (drop i (take n zs ++ ys)) ≡ take m (drop i zs)
front-part zs ys n i m inner within =
    let size : length (take n zs) ≡ n = length-take-le n zs within in
    let e : i + (n - i) ≡ n = omega arith in
    let size' : length (take (n - i) (drop i zs)) ≡ n - i = length-take-le (n - i) (drop i zs) (omega (arith, length-drop i zs)) in
    ap (λ l. take m l)
    (drop-append-le i (take n zs) ys (omega (arith, size))
    ∙ ap (λ l. l ++ ys) (ap (λ k. drop i (take k zs)) (sym e) ∙ drop-take i (n - i) zs))
    ∙ (take-append-le m (take (n - i) (drop i zs)) ys (omega (arith, size')) ∙ take-take m (n - i) (drop i zs) (omega arith))

-- how many bytes the set of a state has
set-sized : (sets : StateSets) (n : ℕ) → n < state_count sets → length (set_bytes sets n) ≡ set_width sets
set-sized sets n below =
    let e : sets.width * (n + 1) ≤ sets.width * state_count sets = mul-le-mul_left sets.width (omega arith) in
    length-take-le sets.width (drop (sets.width * n) sets.sets.items) (omega (arith, e, sets.whole, length-drop (sets.width * n) sets.sets.items, sets.sets.ok))

module _ (kept : List ℕ) (r s : ℕ) (sized : length kept ≡ s) where
  -- each of the fields that begins before that byte has the number of a state
  abbrev HaveNumbers : ℕ → List StateField → Type 0
  HaveNumbers at fs = Each (λ f. f.at < at → slice_index kept f.place < state_count f.sets) fs

  gap-size : (f : StateField) (a p : ℕ) → IsNextField f a p r s → length (slice_range kept p f.place) ≡ f.at - a
  gap-size f a p next =
      let size : length (slice_range kept p f.place) ≡ f.place - p = range-size kept p f.place next.place_behind (omega (arith, next.place_within, sized)) in
      omega (arith, size, next.alike, next.behind, next.place_behind)

  -- behind the first field
  skip : (f : StateField) (fs : List StateField) (a p n : ℕ) → IsNextField f a p r s → slice_index kept f.place < state_count f.sets →
      drop ((end_of f - a) + n) (region_from (f ∷ fs) p kept) ≡ drop n (region_from fs (suc f.place) kept)
  skip f fs a p n next number =
      let gap : List ℕ = slice_range kept p f.place in
      let set : List ℕ = set_bytes f.sets (slice_index kept f.place) in
      let rest : List ℕ = region_from fs (suc f.place) kept in
      let e : (end_of f - a) + n ≡ length gap + (length set + n) = omega (arith, gap-size f a p next, set-sized f.sets (slice_index kept f.place) number, next.behind) in
      ap (λ m. drop m (gap ++ (set ++ rest))) e
      ∙ (drop-append-add gap (set ++ rest) (length set + n) ∙ drop-append-add set rest n)

  -- the set of the first field
  own-first : (f : StateField) (fs : List StateField) (a p : ℕ) → IsNextField f a p r s → slice_index kept f.place < state_count f.sets →
      take (set_width f.sets) (drop (f.at - a) (region_from (f ∷ fs) p kept)) ≡ set_bytes f.sets (slice_index kept f.place)
  own-first f fs a p next number =
      let gap : List ℕ = slice_range kept p f.place in
      let set : List ℕ = set_bytes f.sets (slice_index kept f.place) in
      let rest : List ℕ = region_from fs (suc f.place) kept in
      let e : f.at - a ≡ length gap + 0 = omega (arith, gap-size f a p next) in
      ap (λ m. take (set_width f.sets) (drop m (gap ++ (set ++ rest)))) e
      ∙ (ap (λ l. take (set_width f.sets) l) (drop-append-add gap (set ++ rest) 0)
      ∙ (ap (λ m. take m (set ++ rest)) (sym (set-sized f.sets (slice_index kept f.place) number)) ∙ take-append_seam set rest))

  own-from : (fs : List StateField) (a p k : ℕ) (f : StateField) → AreFieldsApart fs a p r s → slice_get fs k ≡ Some f → HaveNumbers (f.at + 1) fs →
      take (set_width f.sets) (drop (f.at - a) (region_from fs p kept)) ≡ set_bytes f.sets (slice_index kept f.place)
  own-from [] a p k f apart there numbers = absurd (let e : k < 0 = slice_get_within [] k f there in omega arith)
  own-from (g ∷ fs) a p zero f apart there numbers =
      let same : g ≡ f = same_Some g f there in
      let next : IsNextField g a p r s = apart-next g fs a p r s apart in
      let less : g.at < f.at + 1 = subst (λ z. g.at < z.at + 1) same (let l : g.at < g.at + 1 = omega arith in l) in
      subst (λ z. take (set_width z.sets) (drop (z.at - a) (region_from (g ∷ fs) p kept)) ≡ set_bytes z.sets (slice_index kept z.place)) same
      (own-first g fs a p next (numbers.0 less))
  own-from (g ∷ fs) a p (suc k) f apart there numbers =
      let next : IsNextField g a p r s = apart-next g fs a p r s apart in
      let rest : IsApart f (end_of g) (suc g.place) r s = apart-get fs (end_of g) (suc g.place) r s k f apart.1.1.1 there in
      let e : f.at - a ≡ (end_of g - a) + (f.at - end_of g) = omega (arith, next.behind, rest.behind) in
      let less : g.at < f.at + 1 = omega (arith, rest.behind) in
      ap (λ m. take (set_width f.sets) (drop m (region_from (g ∷ fs) p kept))) e
      ∙ (ap (λ l. take (set_width f.sets) l) (skip g fs a p (f.at - end_of g) next (numbers.0 less))
      ∙ own-from fs (end_of g) (suc g.place) k f apart.1.1.1 there numbers.1)

  -- what lies between fields
  between-from : (fs : List StateField) (a p start end : ℕ) → AreFieldsApart fs a p r s → a ≤ start → start ≤ end → end ≤ r → AreAround start end fs → HaveNumbers (start + 1) fs →
      take (end - start) (drop (start - a) (region_from fs p kept)) ≡ take (end - start) (drop (place_from fs a p start) kept)
  between-from [] a p start end apart behind order within around numbers = ap (λ l. take (end - start) l) (drop-drop (start - a) p kept)
  between-from (g ∷ fs) a p start end apart behind order within around numbers =
      by (cases_lt g.at start) around.0 (λ late. between-from fs (end_of g) (suc g.place) start end apart.1.1.1 late order within around.1 numbers.1)
    where
      next : IsNextField g a p r s
      next = apart-next g fs a p r s apart

      some : g.at < end_of g
      some = apart.1.1.0

      by : (g.at < start) ⊎ (start ≤ g.at) → (end_of g ≤ start) ⊎ (end ≤ g.at) →
          (end_of g ≤ start → take (end - start) (drop (start - end_of g) (region_from fs (suc g.place) kept)) ≡ take (end - start) (drop (place_from fs (end_of g) (suc g.place) start) kept)) →
          take (end - start) (drop (start - a) (region_from (g ∷ fs) p kept)) ≡ take (end - start) (drop (place_from (g ∷ fs) a p start) kept)
      by (inl above) (inr early) rest = absurd (omega (arith, above, early, order))
      by (inl above) (inl late) rest =
          let e : start - a ≡ (end_of g - a) + (start - end_of g) = omega (arith, next.behind, late) in
          let less : g.at < start + 1 = omega (arith, above) in
          ap (λ m. take (end - start) (drop m (region_from (g ∷ fs) p kept))) e
          ∙ (ap (λ l. take (end - start) l) (skip g fs a p (start - end_of g) next (numbers.0 less))
          ∙ (rest late
          ∙ ap (λ n. take (end - start) (drop n kept)) (sym (place-behind g fs a p start above))))
      by (inr below) (inl late) rest = absurd (omega (arith, below, late, some))
      by (inr below) (inr early) rest =
          let set : List ℕ = set_bytes g.sets (slice_index kept g.place) in
          let others : List ℕ = set ++ region_from fs (suc g.place) kept in
          let inner : (start - a) + (end - start) ≤ g.place - p = omega (arith, behind, order, early, next.alike, next.behind, next.place_behind) in
          front-part (drop p kept) others (g.place - p) (start - a) (end - start) inner (omega (arith, length-drop p kept, next.place_within, sized))
          ∙ (ap (λ l. take (end - start) l) (drop-drop (start - a) p kept)
          ∙ ap (λ n. take (end - start) (drop n kept)) (sym (place-before g fs a p start below)))

pub part-own : (packing : Packing) (kept : List ℕ) (number : ℕ) (f : StateField) → slice_get packing.fields.items number ≡ Some f → AreNumbersBefore packing kept (f.at + 1) →
    length kept ≡ packed_size packing → slice_range (unpacked packing kept) f.at (end_of f) ≡ set_bytes f.sets (slice_index kept f.place)
part-own packing kept number f there numbers sized =
    let e : end_of f - f.at ≡ set_width f.sets = omega arith in
    let e' : f.at ≡ f.at - 0 = omega arith in
    ap (λ n. take n (drop f.at (unpacked packing kept))) e
    ∙ (ap (λ n. take (set_width f.sets) (drop n (unpacked packing kept))) e'
    ∙ own-from kept packing.region_size packing.size sized packing.fields.items 0 0 number f packing.apart there numbers)

pub part-between : (packing : Packing) (kept : List ℕ) (start end : ℕ) → start ≤ end → end ≤ unpacked_size packing → AreAround start end packing.fields.items →
    AreNumbersBefore packing kept (start + 1) → length kept ≡ packed_size packing →
    slice_range (unpacked packing kept) start end ≡ slice_range kept (place_of packing start) (place_of packing start + (end - start))
part-between packing kept start end order within around numbers sized =
    let place : ℕ = place_of packing start in
    let e : start ≡ start - 0 = omega arith in
    let e' : end - start ≡ place + (end - start) - place = omega arith in
    ap (λ n. take (end - start) (drop n (unpacked packing kept))) e
    ∙ (between-from kept packing.region_size packing.size sized packing.fields.items 0 0 start end packing.apart (omega arith) order within around numbers
    ∙ ap (λ n. take n (drop place kept)) e')
