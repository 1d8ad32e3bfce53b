-- The first number that is that of no state.
use Rattle.std.proofs.Common.{◌≡◌, ℕ, ◌+◌, ◌<◌, ◌≤◌, List, length, Some, get_or, slice_get, refl, sym, ap, subst, ◌∙◌, inl, inr, arith}
use Rattle.std.specs.Prelude.{slice_index}
use Rattle.std.proofs.lemmas.Bool.{cases_lt}
use Rattle.std.proofs.lemmas.Option.{same_Some, slice_get_within}
use Rattle.hs_base.specs.Lists.{Each}
use Rattle.hs_base.proofs.ListLemmas.{each-member, each-of_members, member-place, place-member}
use Rattle.hs_states.specs.StateSets.{state_count}
use Rattle.hs_kept.specs.Packing.{AreNumbers}
use Rattle.hs_kept.specs.Parts.{IsNumberFault}
use Rattle.hs_kept.specs.StateFields.{end_of}
use Rattle.hs_kept.specs.declared.packing.Packing.{Packing}
use Rattle.hs_kept.specs.declared.packing.StateField.{StateField}
use Rattle.hs_kept.proofs.FieldLemmas.{apart-rise, item-there}

-- the field has the number of a state
abbrev pub HasNumber : (kept : List ℕ) → StateField → Type 0
HasNumber kept f = slice_index kept f.place < state_count f.sets

-- the first so many fields have
abbrev pub HaveNumbers : (fs : List StateField) (kept : List ℕ) (count : ℕ) → Type 0
HaveNumbers fs kept count = (j : ℕ) (f : StateField) → j < count → slice_get fs j ≡ Some f → HasNumber kept f

pub numbers-more : (fs gs : List StateField) (kept : List ℕ) (i : ℕ) (f : StateField) → gs ≡ fs → i < length gs → f ≡ get_or gs i f →
    HaveNumbers fs kept i → HasNumber kept f → HaveNumbers fs kept (i + 1)
numbers-more fs gs kept i f same below is so_far here j g early there = elim (cases_lt j i) [
  | inl before ↦ so_far j g before there
  | inr not_before ↦
      let e : j ≡ i = omega (arith, early, not_before) in
      let here' : slice_get fs i ≡ Some f = subst (λ (l : List StateField). slice_get l i ≡ Some f) same (item-there gs i f below is) in
      subst (λ z. HasNumber kept z) (same_Some f g (sym here' ∙ (ap (λ n. slice_get fs n) (sym e) ∙ there))) here
]

pub numbers-all : (fs : List StateField) (kept : List ℕ) (count : ℕ) → length fs ≤ count → HaveNumbers fs kept count → Each (HasNumber kept) fs
numbers-all fs kept count all have =
    each-of_members (HasNumber kept) fs (λ f member.
    let (k, there) = member-place fs f member in
    have k f (let below : k < length fs = slice_get_within fs k f there in omega (arith, below, all)) there)

-- the first field that hasn't
pub fault-found : (packing : Packing) (gs : List StateField) (kept : List ℕ) (i : ℕ) (f : StateField) → gs ≡ packing.fields.items → i < length gs → f ≡ get_or gs i f →
    HaveNumbers packing.fields.items kept i → state_count f.sets ≤ slice_index kept f.place → IsNumberFault packing kept f.at f.place
fault-found packing gs kept i f same below is so_far breaks = record {
  number = i;
  f = f;
  there = here;
  begin = refl;
  begin_kept = refl;
  before = each-of_members (λ g. g.at < f.at → HasNumber kept g) packing.fields.items (λ g member less.
      let (k, there) = member-place packing.fields.items g member in
      elim (cases_lt k i) [
        | inl before ↦ so_far k g before there
        | inr from ↦ absurd (not_behind g k there from less)
      ]);
  breaks = breaks;
}
  where
    here : slice_get packing.fields.items i ≡ Some f
    here = subst (λ (l : List StateField). slice_get l i ≡ Some f) same (item-there gs i f below is)

    not_behind : (g : StateField) (k : ℕ) → slice_get packing.fields.items k ≡ Some g → i ≤ k → g.at < f.at → ⊥
    not_behind g k there from less = elim (cases_lt i k) [
      | inl behind ↦
          let rise : end_of f ≤ g.at = apart-rise packing.fields.items 0 0 packing.region_size packing.size i k f g packing.apart behind here there in
          omega (arith, rise, less)
      | inr until ↦
          let e : i ≡ k = omega (arith, from, until) in
          let one : f ≡ g = same_Some f g (sym here ∙ (ap (λ n. slice_get packing.fields.items n) e ∙ there)) in
          let less' : g.at < g.at = subst (λ z. g.at < z.at) one less in
          omega (arith, less')
    ]

-- then not all have
pub fault-refutes : (packing : Packing) (kept : List ℕ) (at place : ℕ) → IsNumberFault packing kept at place → AreNumbers packing kept → ⊥
fault-refutes packing kept at place fault numbers =
    let has : HasNumber kept fault.f = each-member (HasNumber kept) packing.fields.items fault.f numbers (place-member packing.fields.items fault.f fault.number fault.there) in
    let breaks : state_count fault.f.sets ≤ slice_index kept fault.f.place = fault.breaks in
    omega (arith, has, breaks)
