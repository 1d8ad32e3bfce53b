-- The pairs of a pattern from the ends of its expression, and those of a list of patterns.
use Rattle.std.proofs.Common.{◌≡◌, ℕ, ◌+◌, ◌<◌, ◌≤◌, ◌⊎◌, ◌↔◌, Bool, true, List, [], ◌∷◌, ◌++◌, length, take, get_or, IsTrue, refl, sym, ap, subst, ◌∙◌, inl, inr, arith}
use Rattle.std.proofs.lemmas.Bool.{cases_lt}
use Rattle.std.proofs.lemmas.List.{take_more, map-append}
use Rattle.hs_base.specs.Lists.{OneOf}
use Rattle.hs_base.specs.Patterns as base
use Rattle.hs_base.specs.Patterns.{HasEnd, IsPair}
use Rattle.hs_base.specs.Spans.{Spans}
use Rattle.hs_base.specs.Told.{Pair}
use Rattle.hs_base.proofs.ListLemmas.{one_of-left, one_of-right, one_of-append}
use Rattle.hs_expr.specs.Meaning.{tree_of}
use Rattle.hs_plain.specs.declared.offsets.Offsets.{Offsets}
use Rattle.hs_plain.specs.declared.pattern.Pattern.{Pattern}
use Rattle.hs_plain.specs.OffsetSets.{room, has, AreEnds}
use Rattle.hs_plain.specs.PlainPatterns.{pattern_of, patterns_of, AddsPairs, ArePairs}
use Rattle.hs_plain.proofs.OffsetLemmas.{member-below}
use Rattle.hs_plain.proofs.PairLemmas.{pairs-none, pairs-map, pairs-then}

-- the pair is of the pattern, at one of the ends, within the bounds
pub record IsEndOf (x : Pattern) (ends : Offsets) (p : Pair) : Type 0 where
  pub named : p.id ≡ x.id.0
  pub is : has ends p.to ≡ true
  pub above : x.least ≤ p.to
  pub below : p.to ≤ x.greatest

-- at one of the ends before an offset
abbrev pub IsEndBelow : Pattern → Offsets → ℕ → Pair → Type 0
IsEndBelow x ends n p = (p.to < n) × IsEndOf x ends p

-- what adding one end adds
abbrev pub IsEndAt : Pattern → Offsets → ℕ → Pair → Type 0
IsEndAt x ends to p = (p ≡ record { id = x.id.0; to = to }) × (has ends to ≡ true) × (x.least ≤ to) × (to ≤ x.greatest)

pub ends_below-start : (x : Pattern) (ends : Offsets) (ps : List Pair) → AddsPairs (IsEndBelow x ends 0) ps ps
ends_below-start x ends ps = pairs-none (IsEndBelow x ends 0) ps (λ p (below, _). omega arith)

pub ends_below-more : (x : Pattern) (ends : Offsets) (to : ℕ) (ps qs rs : List Pair) → AddsPairs (IsEndBelow x ends to) ps qs → AddsPairs (IsEndAt x ends to) qs rs → AddsPairs (IsEndBelow x ends (to + 1)) ps rs
ends_below-more x ends to ps qs rs one two =
    pairs-map (λ p. IsEndBelow x ends to p ⊎ IsEndAt x ends to p) (IsEndBelow x ends (to + 1)) ps rs
    (λ p found. widen p found) (λ p found. narrow p found)
    (pairs-then (IsEndBelow x ends to) (IsEndAt x ends to) ps qs rs one two)
  where
    widen : (p : Pair) → IsEndBelow x ends to p ⊎ IsEndAt x ends to p → IsEndBelow x ends (to + 1) p
    widen p (inl (before, end)) = (omega arith, end)
    widen p (inr (same, is, above, below)) =
        let here : Pair = record { id = x.id.0; to = to } in
        let end : IsEndOf x ends here = record { named = refl; is = is; above = above; below = below } in
        let at : to < to + 1 = omega arith in
        subst (IsEndBelow x ends (to + 1)) (sym same) (at, end)

    narrow : (p : Pair) → IsEndBelow x ends (to + 1) p → IsEndBelow x ends to p ⊎ IsEndAt x ends to p
    narrow p (before, end) = elim (cases_lt p.to to) [
      | inl earlier ↦ inl (earlier, end)
      | inr last ↦
          let same : p.to ≡ to = omega arith in
          let f : ℕ → ℕ → Pair = λ a b. record { id = a; to = b } in
          let e : p ≡ f x.id.0 p.to = ap (λ a. f a p.to) end.named in
          let e' : f x.id.0 p.to ≡ f x.id.0 to = ap (λ b. f x.id.0 b) same in
          inr (e ∙ e', subst (λ b. has ends b ≡ true) same end.is, omega (arith, end.above), omega (arith, end.below))
    ]

-- the ends are exactly those of spans of the expression
abbrev pub AreAllEnds : Pattern → List ℕ → Bool → Offsets → Type 0
AreAllEnds x w ended ends = (to : ℕ) → (has ends to ≡ true) ↔ ((to ≤ length w) × ((from : ℕ) × Spans w ended (tree_of x.expr) from to))

pub ends_below-all : (x : Pattern) (w : List ℕ) (ended : Bool) (ends : Offsets) (n : ℕ) (ps qs : List Pair) → AreAllEnds x w ended ends → n ≡ room ends → AddsPairs (IsEndBelow x ends n) ps qs → AddsPairs (λ p. (p.to ≤ length w) × HasEnd w ended p.id p.to (pattern_of x)) ps qs
ends_below-all x w ended ends n ps qs all whole adds =
    pairs-map (IsEndBelow x ends n) (λ p. (p.to ≤ length w) × HasEnd w ended p.id p.to (pattern_of x)) ps qs
    (λ p (_, end).
    let (within, (from, span)) = (all p.to).0 end.is in
    (within, record { named = sym end.named; above = end.above; below = end.below; from = from; spans = span }))
    (λ p (within, end).
    let is : has ends p.to ≡ true = (all p.to).1 (within, (end.from, end.spans)) in
    let below : p.to < room ends = member-below ends p.to is in
    (omega arith, record { named = sym end.named; is = is; above = end.above; below = end.below }))
    adds

-- from all starts
pub ends-all : (R : ℕ → ℕ → Type 0) → ((i j : ℕ) → R i j → i ≤ j) → (n : ℕ) (starts ends : Offsets) → room starts ≡ n + 1 → ((j : ℕ) → j < n + 1 → has starts j ≡ true) → AreEnds R starts ends → (to : ℕ) → (has ends to ≡ true) ↔ ((to ≤ n) × ((from : ℕ) × R from to))
ends-all R order n starts ends size every are to = (
  λ is.
      let below : to < room ends = member-below ends to is in
      let (from, _, leads) = (are.each to).0 is in
      (omega (arith, are.alike), (from, leads)),
  λ (within, (from, leads)).
      let rises : from ≤ to = order from to leads in
      (are.each to).1 (from, every from (omega arith), leads),
)

patterns-take : (xs : List Pattern) (k : ℕ) (x : Pattern) → k < length xs → x ≡ get_or xs k x → patterns_of (take (k + 1) xs) ≡ patterns_of (take k xs) ++ pattern_of x ∷ []
patterns-take xs k x within here =
    ap patterns_of (take_more xs k x within)
    ∙ (map-append pattern_of (take k xs) (get_or xs k x ∷ []) ∙ ap (λ y. patterns_of (take k xs) ++ pattern_of y ∷ []) (sym here))

-- what a list of patterns gives
abbrev pub IsGiven : List ℕ → Bool → List base.Pattern → Pair → Type 0
IsGiven w ended P p = (p.to ≤ length w) × OneOf (HasEnd w ended p.id p.to) P

-- one pattern more
pub given-more : (xs : List Pattern) (k : ℕ) (x : Pattern) (w : List ℕ) (ended : Bool) (ps qs rs : List Pair) → k < length xs → x ≡ get_or xs k x →
    AddsPairs (IsGiven w ended (patterns_of (take k xs))) ps qs → AddsPairs (λ p. (p.to ≤ length w) × HasEnd w ended p.id p.to (pattern_of x)) qs rs → AddsPairs (IsGiven w ended (patterns_of (take (k + 1) xs))) ps rs
given-more xs k x w ended ps qs rs within here one two =
    let before : List base.Pattern = patterns_of (take k xs) in
    let Next : Pair → Type 0 = λ p. (p.to ≤ length w) × HasEnd w ended p.id p.to (pattern_of x) in
    subst (λ P. AddsPairs (IsGiven w ended P) ps rs) (sym (patterns-take xs k x within here))
    (pairs-map (λ p. IsGiven w ended before p ⊎ Next p) (IsGiven w ended (before ++ pattern_of x ∷ [])) ps rs
    (λ p found. elim found [
      | inl (inside, given) ↦ (inside, one_of-left (HasEnd w ended p.id p.to) before (pattern_of x ∷ []) given)
      | inr (inside, end) ↦ (inside, one_of-right (HasEnd w ended p.id p.to) before (pattern_of x ∷ []) (inl end))
    ])
    (λ p (inside, given). elim (one_of-append (HasEnd w ended p.id p.to) before (pattern_of x ∷ []) given) [
      | inl left ↦ inl (inside, left)
      | inr right ↦ elim right [ inl end ↦ inr (inside, end) | inr none ↦ absurd none ]
    ])
    (pairs-then (IsGiven w ended before) Next ps qs rs one two))

-- all of them, and nothing else
pub given-pairs : (P : List base.Pattern) (w : List ℕ) (ended : Bool) (ps : List Pair) → (0 < length w) ⊎ IsTrue ended → AddsPairs (IsGiven w ended P) [] ps → ArePairs P w ended ps
given-pairs P w ended ps begun adds = record {
  each = λ p. (
    λ is. elim ((adds.each p).0 is) [
      | inl none ↦ absurd none
      | inr (within, given) ↦ record { within = within; begun = begun; given = given }
    ],
    λ pair. (adds.each p).1 (inr (pair.within, pair.given)),
  );
  rising = adds.rising tt;
}

-- a stream without a byte and without an end has none
pub no-pairs : (P : List base.Pattern) (w : List ℕ) (ended : Bool) → ((0 < length w) ⊎ IsTrue ended → ⊥) → ArePairs P w ended []
no-pairs P w ended not = record {
  each = λ p. (λ is. absurd is, λ pair. absurd (not pair.begun));
  rising = tt;
}
