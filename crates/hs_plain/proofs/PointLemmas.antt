-- The code points of ranges, gone through one by one.
use Rattle.std.proofs.Common.{◌≡◌, ℕ, ◌+◌, ◌<◌, ◌≤◌, ◌⊎◌, List, [], ◌∷◌, ◌++◌, min, subst, inl, inr, arith}
use Rattle.std.proofs.lemmas.Bool.{cases_lt}
use Rattle.hs_base.specs.Lists.{OneOf}
use Rattle.hs_base.specs.Spans.{IsScalarValue, IsInRange, IsPointOf}
use Rattle.hs_base.proofs.ListLemmas.{one_of-left, one_of-right, one_of-append}
use Rattle.hs_plain.specs.declared.offsets.Offsets.{Offsets}
use Rattle.hs_plain.specs.OffsetSets.{AddsOffsets}
use Rattle.hs_plain.specs.Points.{IsCodePointAt}
use Rattle.hs_plain.proofs.OffsetLemmas.{adds-none, adds-map, adds-then}

-- the code points of a range below c
abbrev pub IsPointBelow : ℕ → ℕ → ℕ → List ℕ → ℕ → ℕ → Type 0
IsPointBelow first last c w i j = (p : ℕ) × (first ≤ p) × (p ≤ last) × (p < c) × IsCodePointAt w p i j

pub points_below-start : (first last : ℕ) (w : List ℕ) (i : ℕ) (s : Offsets) → AddsOffsets (IsPointBelow first last first w i) s s
points_below-start first last w i s = adds-none (IsPointBelow first last first w i) s (λ j (p, low, high, below, _). omega arith)

pub points_below-more : (first last c : ℕ) (w : List ℕ) (i : ℕ) (s t u : Offsets) → first ≤ c → c ≤ last → AddsOffsets (IsPointBelow first last c w i) s t → AddsOffsets (IsCodePointAt w c i) t u → AddsOffsets (IsPointBelow first last (c + 1) w i) s u
points_below-more first last c w i s t u low high one two =
    adds-map (λ j. IsPointBelow first last c w i j ⊎ IsCodePointAt w c i j) (IsPointBelow first last (c + 1) w i) s u
    (λ j found. widen j found) (λ j (p, above, within, below, point). narrow j p above within below point)
    (adds-then (IsPointBelow first last c w i) (IsCodePointAt w c i) s t u one two)
  where
    widen : (j : ℕ) → IsPointBelow first last c w i j ⊎ IsCodePointAt w c i j → IsPointBelow first last (c + 1) w i j
    widen j (inl (p, above, within, below, point)) = (p, above, within, omega arith, point)
    widen j (inr point) = (c, low, high, omega arith, point)

    narrow : (j p : ℕ) → first ≤ p → p ≤ last → p < c + 1 → IsCodePointAt w p i j → IsPointBelow first last c w i j ⊎ IsCodePointAt w c i j
    narrow j p above within below point = elim (cases_lt p c) [
      | inl before ↦ inl (p, above, within, before, point)
      | inr here ↦ let same : p ≡ c = omega arith in inr (subst (λ q. IsCodePointAt w q i j) same point)
    ]

scalar-below : (c : ℕ) → IsScalarValue c → c < 0x110000
scalar-below c (inl low) = omega arith
scalar-below c (inr high) = omega arith

-- all code points of the range have been gone through
pub points_below-all : (first last c : ℕ) (w : List ℕ) (i : ℕ) (s t : Offsets) → min last 0x10FFFF + 1 ≤ c → AddsOffsets (IsPointBelow first last c w i) s t → AddsOffsets (IsPointOf ((first, last) ∷ []) w i) s t
points_below-all first last c w i s t whole adds =
    adds-map (IsPointBelow first last c w i) (IsPointOf ((first, last) ∷ []) w i) s t
    (λ j (p, above, within, below, point). record { code_point = p; scalar = point.scalar; member = inl (above, within); bytes = point.bytes; end = point.end })
    (λ j point. narrow j point)
    adds
  where
    narrow : (j : ℕ) → IsPointOf ((first, last) ∷ []) w i j → IsPointBelow first last c w i j
    narrow j point = elim point.member [
      | inl within ↦
          let low : point.code_point < 0x110000 = scalar-below point.code_point point.scalar in (
            point.code_point,
            within.0,
            within.1,
            omega arith,
            record { scalar = point.scalar; bytes = point.bytes; end = point.end },
          )
      | inr none ↦ absurd none
    ]

pub points_of-none : (w : List ℕ) (i : ℕ) (s : Offsets) → AddsOffsets (IsPointOf [] w i) s s
points_of-none w i s = adds-none (IsPointOf [] w i) s (λ j point. point.member)

-- one range more
pub points_of-more : (before : List (ℕ × ℕ)) (range : ℕ × ℕ) (w : List ℕ) (i : ℕ) (s t u : Offsets) → AddsOffsets (IsPointOf before w i) s t → AddsOffsets (IsPointOf (range ∷ []) w i) t u → AddsOffsets (IsPointOf (before ++ range ∷ []) w i) s u
points_of-more before range w i s t u one two =
    adds-map (λ j. IsPointOf before w i j ⊎ IsPointOf (range ∷ []) w i j) (IsPointOf (before ++ range ∷ []) w i) s u
    (λ j found. elim found [
      | inl point ↦ other j before (before ++ range ∷ []) point (one_of-left (IsInRange point.code_point) before (range ∷ []) point.member)
      | inr point ↦ other j (range ∷ []) (before ++ range ∷ []) point (one_of-right (IsInRange point.code_point) before (range ∷ []) point.member)
    ])
    (λ j point. elim (one_of-append (IsInRange point.code_point) before (range ∷ []) point.member) [
      | inl member ↦ inl (other j (before ++ range ∷ []) before point member)
      | inr member ↦ inr (other j (before ++ range ∷ []) (range ∷ []) point member)
    ])
    (adds-then (IsPointOf before w i) (IsPointOf (range ∷ []) w i) s t u one two)
  where
    other : (j : ℕ) (rs rs' : List (ℕ × ℕ)) (point : IsPointOf rs w i j) → OneOf (IsInRange point.code_point) rs' → IsPointOf rs' w i j
    other j rs rs' point member = record {
      code_point = point.code_point;
      scalar = point.scalar;
      member = member;
      bytes = point.bytes;
      end = point.end;
    }
