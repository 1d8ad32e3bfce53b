-- How a region goes on behind a field, and behind a set of positions, where it is unpacked, and where it is packed.
use Rattle.std.proofs.Common.{◌≡◌, ℕ, suc, ◌+◌, ◌-◌, ◌<◌, ◌≤◌, List, [], ◌∷◌, ◌++◌, length, take, drop, slice_range, refl, sym, ap, ◌∙◌, arith, append_assoc}
use Rattle.std.specs.Prelude.{slice_index}
use Rattle.std.proofs.lemmas.List.{drop-take}
use Rattle.std.proofs.lemmas.List.Folds.{drop_split}
use Rattle.hs_base.specs.declared.context.Prev.{Prev}
use Rattle.hs_base.specs.Lists.{Each}
use Rattle.hs_base.specs.Trees.{Tree}
use Rattle.hs_base.proofs.RegionLemmas.{drop-drop, range-size}
use Rattle.hs_states.specs.StateSets.{AreSetsOf, set_bytes, set_width, state_count}
use Rattle.hs_kept.specs.Packing.{AreAlikeBetween, IsNumberFor, end_of, region_from}
use Rattle.hs_kept.specs.declared.packing.StateField.{StateField}
use Rattle.hs_kept.proofs.PartLemmas.{IsAhead, cut-rest, cut-same, range-as, range-join, range-none, take-take}
use Rattle.hs_kept.proofs.StatePartLemmas.{set-bytes_are}

-- What is unpacked, by fields that are left.

pub from-split : (fs : List StateField) (kept : List ℕ) (at place end : ℕ) → IsAhead fs at end → place ≤ end → region_from fs place kept ≡ slice_range kept place end ++ region_from fs end kept
from-split [] kept at place end before order = drop_split kept place end order
from-split (f ∷ fs) kept at place end (d, one, other) order =
    let rest : List ℕ = set_bytes f.sets (slice_index kept f.place) ++ region_from fs (suc f.place) kept in
    ap (λ zs. zs ++ rest) (range-join kept place end f.place order (omega arith)) ∙ append_assoc (slice_range kept place end) (slice_range kept end f.place) rest

-- the number is that of the state with that set, where this stands before, or 0
abbrev pub IsNumberOf : Prev → StateField → List ℕ → ℕ → Type 0
IsNumberOf prev f set number = IsNumberFor f.sets set prev number

-- the number is that of a state with that set
abbrev pub IsSetFor : StateField → List ℕ → ℕ → Type 0
IsSetFor f set number = (number < state_count f.sets) × (set ≡ set_bytes f.sets number)

module _ (region kept : List ℕ) where
  -- the region goes on as what is unpacked of those fields, whose numbers are those of states
  abbrev pub Unpacks : List StateField → (at place : ℕ) → Type 0
  Unpacks fs at place = (drop at region ≡ region_from fs place kept) × Each (λ f. slice_index kept f.place < state_count f.sets) fs

  pub field-unpacks : (fs : List StateField) (at place next end : ℕ) (n : ℕ) → next ≡ at + n → end ≡ place + n → IsAhead fs next end → end ≤ length kept → Unpacks fs at place →
      (slice_range region at next ≡ slice_range kept place end) × Unpacks fs next end
  field-unpacks fs at place next end n one other before within holds =
      let e : length (slice_range kept place end) ≡ end - place = range-size kept place end (omega arith) within in
      let split : drop at region ≡ slice_range kept place end ++ region_from fs end kept = holds.0 ∙ from-split fs kept next place end before (omega arith) in
      let wide : next ≡ at + length (slice_range kept place end) = omega arith in
      (cut-same region (slice_range kept place end) (region_from fs end kept) at next split wide, (cut-rest region (slice_range kept place end) (region_from fs end kept) at next split wide, holds.1))

  pub state-unpacks : (f : StateField) (fs : List StateField) (tree : Tree) → AreSetsOf f.sets tree → Unpacks (f ∷ fs) f.at f.place →
      IsSetFor f (slice_range region f.at (end_of f)) (slice_index kept f.place) × Unpacks fs (end_of f) (suc f.place)
  state-unpacks f fs tree sets holds =
      let n : ℕ = slice_index kept f.place in
      let set : List ℕ = set_bytes f.sets n in
      let e : length set ≡ set_width f.sets = (set-bytes_are f.sets tree sets n holds.1.0).count ∙ sym sets.width in
      let split : drop f.at region ≡ set ++ region_from fs (suc f.place) kept =
      holds.0 ∙ ap (λ zs. zs ++ (set ++ region_from fs (suc f.place) kept)) (range-none kept f.place f.place refl) in
      let wide : end_of f ≡ f.at + length set = omega arith in
      ((holds.1.0, cut-same region set (region_from fs (suc f.place) kept) f.at (end_of f) split wide), (cut-rest region set (region_from fs (suc f.place) kept) f.at (end_of f) split wide, holds.1.1))

  -- What is packed, by fields that are left.
  module _ (prev : Prev) where
    abbrev pub Packs : List StateField → (at place : ℕ) → Type 0
    Packs fs at place = AreAlikeBetween fs at place region kept × Each (λ f. IsNumberFor f.sets (slice_range region f.at (end_of f)) prev (slice_index kept f.place)) fs

    front-alike : (xs ys : List ℕ) (n d : ℕ) → take (n + d) xs ≡ take (n + d) ys → take n xs ≡ take n ys
    front-alike xs ys n d same = sym (take-take n d xs) ∙ (ap (take n) same ∙ take-take n d ys)

    back-alike : (xs ys : List ℕ) (n d : ℕ) → take (n + d) xs ≡ take (n + d) ys → take d (drop n xs) ≡ take d (drop n ys)
    back-alike xs ys n d same = sym (drop-take n d xs) ∙ (ap (drop n) same ∙ drop-take n d ys)

    alike-split : (fs : List StateField) (at place next end : ℕ) (n : ℕ) → next ≡ at + n → end ≡ place + n → IsAhead fs next end → AreAlikeBetween fs at place region kept →
        (slice_range region at next ≡ slice_range kept place end) × AreAlikeBetween fs next end region kept
    alike-split [] at place next end n one other before same = (
      range-as region at next n one ∙ (ap (take n) same ∙ sym (range-as kept place end n other)),
      ap (λ m. drop m region) one ∙ (sym (drop-drop at n region) ∙ (ap (drop n) same ∙ (drop-drop place n kept ∙ ap (λ m. drop m kept) (sym other)))),
    )
    alike-split (f ∷ fs) at place next end n one other (d, there, stands) same =
        let whole : take (n + d) (drop at region) ≡ take (n + d) (drop place kept) =
        sym (range-as region at f.at (n + d) (omega arith)) ∙ (same.0 ∙ range-as kept place f.place (n + d) (omega arith)) in (
          range-as region at next n one ∙ (front-alike (drop at region) (drop place kept) n d whole ∙ sym (range-as kept place end n other)),
          (
            range-as region next f.at d there
                ∙ (ap (λ m. take d (drop m region)) one
                ∙ (ap (take d) (sym (drop-drop at n region))
                ∙ (back-alike (drop at region) (drop place kept) n d whole
                ∙ (ap (take d) (drop-drop place n kept) ∙ (ap (λ m. take d (drop m kept)) (sym other) ∙ sym (range-as kept end f.place d stands)))))),
            same.1,
          ),
        )

    pub field-packs : (fs : List StateField) (at place next end : ℕ) (n : ℕ) → next ≡ at + n → end ≡ place + n → IsAhead fs next end → end ≤ length kept → Packs fs at place →
        (slice_range region at next ≡ slice_range kept place end) × Packs fs next end
    field-packs fs at place next end n one other before within holds =
        let both = alike-split fs at place next end n one other before holds.0 in
        (both.0, (both.1, holds.1))

    pub state-packs : (f : StateField) (fs : List StateField) (tree : Tree) → AreSetsOf f.sets tree → Packs (f ∷ fs) f.at f.place →
        IsNumberOf prev f (slice_range region f.at (end_of f)) (slice_index kept f.place) × Packs fs (end_of f) (suc f.place)
    state-packs f fs tree sets holds = (holds.1.0, (holds.0.1, holds.1.1))
