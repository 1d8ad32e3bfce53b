-- Fields that lie apart.
use Rattle.std.proofs.Common.{◌≡◌, ℕ, zero, suc, ◌+◌, ◌<◌, ◌≤◌, List, [], ◌∷◌, ◌++◌, length, drop, get_or, Some, slice_get, sym, ap, subst, ◌∙◌, inl, inr, arith}
use Rattle.std.proofs.Math.Seq.{drop-cons}
use Rattle.std.proofs.lemmas.Option.{same_Some, slice_get-get_or, slice_get_within}
use Rattle.std.proofs.lemmas.Bool.{cases_lt}
use Rattle.hs_states.specs.StateSets.{set_width}
use Rattle.hs_kept.specs.StateFields.{AreFieldsApart, IsNextField, end_of}
use Rattle.hs_kept.specs.declared.packing.Packing.{Packing}
use Rattle.hs_kept.specs.declared.packing.StateField.{StateField}

-- where the first field begins is within both
pub apart-within : (fs : List StateField) (at place r s : ℕ) → AreFieldsApart fs at place r s → (place ≤ s) × (at ≤ r)
apart-within [] at place r s apart = (apart.0, omega (arith, apart.0, apart.1))
apart-within (f ∷ fs) at place r s apart =
    let rest : (suc f.place ≤ s) × (end_of f ≤ r) = apart-within fs (end_of f) (suc f.place) r s apart.1.1.1 in
    (omega (arith, rest.0, apart.0, apart.1.0), omega (arith, rest.1, apart.0))

-- the first field is the next one
pub apart-next : (f : StateField) (fs : List StateField) (at place r s : ℕ) → AreFieldsApart (f ∷ fs) at place r s → IsNextField f at place r s
apart-next f fs at place r s apart =
    let rest : (suc f.place ≤ s) × (end_of f ≤ r) = apart-within fs (end_of f) (suc f.place) r s apart.1.1.1 in
    record {
      behind = apart.0;
      place_behind = omega (arith, apart.0, apart.1.0);
      alike = apart.1.0;
      within = rest.1;
      place_within = omega (arith, rest.0);
    }

-- what is behind a place in a list
pub drop-item : (fs : List StateField) (k : ℕ) (f : StateField) → k < length fs → f ≡ get_or fs k f → drop k fs ≡ f ∷ drop (k + 1) fs
drop-item fs k f below is =
    drop-cons fs k f below
    ∙ (ap (λ g. g ∷ drop (suc k) fs) (sym is) ∙ ap (λ n. f ∷ drop n fs) (let e : suc k ≡ k + 1 = omega arith in e))

-- no field
pub apart-none : (at place n : ℕ) → AreFieldsApart [] at place (at + n) (place + n)
apart-none at place n = (omega arith, omega arith)

-- more bytes behind the last field
pub apart-gap : (fs : List StateField) (at place r s n : ℕ) → AreFieldsApart fs at place r s → AreFieldsApart fs at place (r + n) (s + n)
apart-gap [] at place r s n apart = (omega (arith, apart.0), omega (arith, apart.1))
apart-gap (f ∷ fs) at place r s n apart = (apart.0, (apart.1.0, (apart.1.1.0, apart-gap fs (end_of f) (suc f.place) r s n apart.1.1.1)))

-- a field more, which begins where the two end
pub apart-more : (fs : List StateField) (at place r s : ℕ) (f : StateField) → AreFieldsApart fs at place r s → f.at ≡ r → f.place ≡ s → 0 < set_width f.sets →
    AreFieldsApart (fs ++ f ∷ []) at place (end_of f) (suc f.place)
apart-more [] at place r s f apart begin begin' some =
    (omega (arith, apart.0, apart.1, begin), (omega (arith, apart.1, begin, begin'), (omega (arith, some), (omega arith, omega arith))))
apart-more (g ∷ fs) at place r s f apart begin begin' some =
    (apart.0, (apart.1.0, (apart.1.1.0, apart-more fs (end_of g) (suc g.place) r s f apart.1.1.1 begin begin' some)))

module _ (fs gs : List StateField) (i : ℕ) (f : StateField) (same : gs ≡ fs) (below : i < length gs) (is : f ≡ get_or gs i f) where
  -- the item of a loop over the fields is the first one of what is left
  pub left-item : drop i fs ≡ f ∷ drop (i + 1) fs
  left-item = subst (λ (l : List StateField). drop i l ≡ f ∷ drop (i + 1) l) same (drop-item gs i f below is)

  pub next-item : (at place r s r' s' : ℕ) → r' ≡ r → s' ≡ s → AreFieldsApart (drop i fs) at place r s → IsNextField f at place r' s'
  next-item at place r s r' s' e e' apart =
      let next : IsNextField f at place r s = apart-next f (drop (i + 1) fs) at place r s (subst (λ l. AreFieldsApart l at place r s) left-item apart) in
      record {
        behind = next.behind;
        place_behind = next.place_behind;
        alike = next.alike;
        within = omega (arith, next.within, e);
        place_within = omega (arith, next.place_within, e');
      }

  -- and the others lie apart behind it
  pub apart-step : (at place r s at' : ℕ) → at' ≡ end_of f → AreFieldsApart (drop i fs) at place r s → AreFieldsApart (drop (i + 1) fs) at' (f.place + 1) r s
  apart-step at place r s at' end apart =
      let both : AreFieldsApart (f ∷ drop (i + 1) fs) at place r s = subst (λ l. AreFieldsApart l at place r s) left-item apart in
      let e : suc f.place ≡ f.place + 1 = omega arith in
      subst (λ n. AreFieldsApart (drop (i + 1) fs) n (f.place + 1) r s) (sym end) (subst (λ n. AreFieldsApart (drop (i + 1) fs) (end_of f) n r s) e both.1.1.1)

-- A field among those that lie apart.
pub record IsApart (f : StateField) (at place r s : ℕ) : Type 0 where
  pub behind : at ≤ f.at
  pub some : f.at < end_of f
  pub within : end_of f ≤ r
  pub place_within : f.place < s

pub apart-get : (fs : List StateField) (at place r s k : ℕ) (f : StateField) → AreFieldsApart fs at place r s → slice_get fs k ≡ Some f → IsApart f at place r s
apart-get [] at place r s k f apart there = absurd (let e : k < 0 = slice_get_within [] k f there in omega arith)
apart-get (g ∷ fs) at place r s zero f apart there =
    let next : IsNextField g at place r s = apart-next g fs at place r s apart in
    let same : g ≡ f = same_Some g f there in
    subst (λ z. IsApart z at place r s) same
    (record { behind = apart.0; some = apart.1.1.0; within = next.within; place_within = next.place_within })
apart-get (g ∷ fs) at place r s (suc k) f apart there =
    let rest : IsApart f (end_of g) (suc g.place) r s = apart-get fs (end_of g) (suc g.place) r s k f apart.1.1.1 there in
    record {
      behind = omega (arith, apart.0, rest.behind);
      some = rest.some;
      within = rest.within;
      place_within = rest.place_within;
    }

-- fields rise
pub apart-rise : (fs : List StateField) (at place r s j k : ℕ) (f g : StateField) → AreFieldsApart fs at place r s → j < k → slice_get fs j ≡ Some f → slice_get fs k ≡ Some g → end_of f ≤ g.at
apart-rise [] at place r s j k f g apart less there there' = absurd (let e : j < 0 = slice_get_within [] j f there in omega arith)
apart-rise (h ∷ fs) at place r s j zero f g apart less there there' = absurd (omega arith)
apart-rise (h ∷ fs) at place r s zero (suc k) f g apart less there there' =
    let rest : IsApart g (end_of h) (suc h.place) r s = apart-get fs (end_of h) (suc h.place) r s k g apart.1.1.1 there' in
    let same : h ≡ f = same_Some h f there in
    subst (λ z. end_of z ≤ g.at) same rest.behind
apart-rise (h ∷ fs) at place r s (suc j) (suc k) f g apart less there there' =
    apart-rise fs (end_of h) (suc h.place) r s j k f g apart.1.1.1 (omega arith) there there'

-- an item that is read is there
pub item-there : (fs : List StateField) (k : ℕ) (f : StateField) → k < length fs → f ≡ get_or fs k f → slice_get fs k ≡ Some f
item-there fs k f below is = slice_get-get_or fs k f below ∙ ap (λ g. Some g) (sym is)

-- all fields up to one begin before a byte, if that one does
pub before-middle : (fs : List StateField) (r s at middle : ℕ) (g : StateField) → AreFieldsApart fs 0 0 r s → middle < length fs → g ≡ get_or fs middle g → g.at < at →
    (j : ℕ) (f : StateField) → j < middle + 1 → slice_get fs j ≡ Some f → f.at < at
before-middle fs r s at middle g apart below is less j f early there = elim (cases_lt j middle) [
  | inl before ↦
      let rise : end_of f ≤ g.at = apart-rise fs 0 0 r s j middle f g apart before there (item-there fs middle g below is) in
      omega (arith, rise, less)
  | inr not_before ↦
      let e : j ≡ middle = omega (arith, early, not_before) in
      let same : g ≡ f = same_Some g f (sym (item-there fs middle g below is) ∙ (ap (λ n. slice_get fs n) (sym e) ∙ there)) in
      subst (λ z. z.at < at) same less
]

pub own-middle : (fs : List StateField) (at middle : ℕ) (g : StateField) → middle < length fs → g ≡ get_or fs middle g → at ≤ g.at →
    (f : StateField) → slice_get fs middle ≡ Some f → at ≤ f.at
own-middle fs at middle g below is above f there =
    subst (λ z. at ≤ z.at) (same_Some g f (sym (item-there fs middle g below is) ∙ there)) above

-- a field of a packing that is read
pub read-apart : (packing : Packing) (k : ℕ) (f : StateField) → k < length packing.fields.items → f ≡ get_or packing.fields.items k f → IsApart f 0 0 packing.region_size packing.size
read-apart packing k f below is =
    apart-get packing.fields.items 0 0 packing.region_size packing.size k f packing.apart (item-there packing.fields.items k f below is)
