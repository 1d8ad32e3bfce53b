-- The items of a concatenation from one on: what they have, the whole has.
use Rattle.std.proofs.Common.{◌≡◌, ℕ, zero, suc, ◌+◌, ◌<◌, Bool, true, false, ◌||◌, List, [], ◌∷◌, length, map, drop, get_or, refl, sym, ap, ◌∙◌}
use Rattle.hs_base.specs.EndAssertions.{may_consume, one_may_consume, has_embedded_end, sequence_has_embedded_end, one_has_embedded_end}
use Rattle.hs_expr.specs.declared.expr.Expr.{Expr}
use Rattle.hs_expr.specs.Meaning.{tree_of, trees_of}
use Rattle.hs_expr.proofs.TreeLemmas.{trees_of-drop}
use Rattle.hs_base.proofs.ContextLemmas.{right_of_either}

-- what later items have, all have
pub sequence-later : (items : List Expr) (i : ℕ) (after : Bool) → sequence_has_embedded_end (trees_of (map tree_of (drop i items))) after ≡ true →
    sequence_has_embedded_end (trees_of (map tree_of items)) after ≡ true
sequence-later [] zero after has = has
sequence-later [] (suc i) after has = has
sequence-later (x ∷ items) zero after has = has
sequence-later (x ∷ items) (suc i) after has =
    right_of_either (has_embedded_end (tree_of x) (after || one_may_consume (trees_of (map tree_of items)))) (sequence_has_embedded_end (trees_of (map tree_of items)) after)
    (sequence-later items i after has)

first-true : (a b : Bool) → a ≡ true → (a || b) ≡ true
first-true true b is = refl
first-true false b is = absurd (cc)

first-false : (a b : Bool) → a ≡ false → (a || b) ≡ b
first-false true b is = absurd (cc)
first-false false b is = refl

-- the item before those has it, so all have
pub sequence-has : (items : List Expr) (i : ℕ) (item : Expr) (after consumed : Bool) → i < length items → item ≡ get_or items i item →
    consumed ≡ (after || one_may_consume (trees_of (map tree_of (drop (i + 1) items)))) → has_embedded_end (tree_of item) consumed ≡ true →
    sequence_has_embedded_end (trees_of (map tree_of items)) after ≡ true
sequence-has items i item after consumed within is consumes has =
    sequence-later items i after
    (ap (λ ts. sequence_has_embedded_end ts after) (trees_of-drop items i item within is)
    ∙ first-true (has_embedded_end (tree_of item) (after || one_may_consume (trees_of (map tree_of (drop (i + 1) items))))) (sequence_has_embedded_end (trees_of (map tree_of (drop (i + 1) items))) after)
    (ap (has_embedded_end (tree_of item)) (sym consumes) ∙ has))

-- the item before those hasn't, so those and it have not
pub sequence-lacks : (items : List Expr) (i : ℕ) (item : Expr) (after consumed : Bool) → i < length items → item ≡ get_or items i item →
    consumed ≡ (after || one_may_consume (trees_of (map tree_of (drop (i + 1) items)))) → has_embedded_end (tree_of item) consumed ≡ false →
    sequence_has_embedded_end (trees_of (map tree_of (drop (i + 1) items))) after ≡ false →
    sequence_has_embedded_end (trees_of (map tree_of (drop i items))) after ≡ false
sequence-lacks items i item after consumed within is consumes lacks rest =
    ap (λ ts. sequence_has_embedded_end ts after) (trees_of-drop items i item within is)
    ∙ first-false (has_embedded_end (tree_of item) (after || one_may_consume (trees_of (map tree_of (drop (i + 1) items))))) (sequence_has_embedded_end (trees_of (map tree_of (drop (i + 1) items))) after)
    (ap (has_embedded_end (tree_of item)) (sym consumes) ∙ lacks)
    ∙ rest

either-more : (a b c : Bool) → ((a || b) || c) ≡ (a || (c || b))
either-more true b c = refl
either-more false true true = refl
either-more false true false = refl
either-more false false true = refl
either-more false false false = refl

-- whether it and those, or what comes behind, may consume
pub consumed-more : (items : List Expr) (i : ℕ) (item : Expr) (after consumed : Bool) → i < length items → item ≡ get_or items i item →
    consumed ≡ (after || one_may_consume (trees_of (map tree_of (drop (i + 1) items)))) →
    (consumed || may_consume (tree_of item)) ≡ (after || one_may_consume (trees_of (map tree_of (drop i items))))
consumed-more items i item after consumed within is consumes =
    ap (λ b. (b || may_consume (tree_of item))) consumes
    ∙ either-more after (one_may_consume (trees_of (map tree_of (drop (i + 1) items)))) (may_consume (tree_of item))
    ∙ ap (λ ts. (after || one_may_consume ts)) (sym (trees_of-drop items i item within is))

-- one of the expressions from one on may consume
pub one-consumes : (items : List Expr) (i : ℕ) (item : Expr) → i < length items → item ≡ get_or items i item → may_consume (tree_of item) ≡ true →
    one_may_consume (trees_of (map tree_of (drop i items))) ≡ true
one-consumes items i item within is consumes =
    ap one_may_consume (trees_of-drop items i item within is)
    ∙ first-true (may_consume (tree_of item)) (one_may_consume (trees_of (map tree_of (drop (i + 1) items)))) consumes

pub one-consumes_none : (items : List Expr) (i : ℕ) (item : Expr) → i < length items → item ≡ get_or items i item → may_consume (tree_of item) ≡ false →
    one_may_consume (trees_of (map tree_of (drop i items))) ≡ one_may_consume (trees_of (map tree_of (drop (i + 1) items)))
one-consumes_none items i item within is consumes =
    ap one_may_consume (trees_of-drop items i item within is)
    ∙ first-false (may_consume (tree_of item)) (one_may_consume (trees_of (map tree_of (drop (i + 1) items)))) consumes

-- one of the alternatives from one on has it
pub one-has : (items : List Expr) (i : ℕ) (item : Expr) (after : Bool) → i < length items → item ≡ get_or items i item → has_embedded_end (tree_of item) after ≡ true →
    one_has_embedded_end (trees_of (map tree_of (drop i items))) after ≡ true
one-has items i item after within is has =
    ap (λ ts. one_has_embedded_end ts after) (trees_of-drop items i item within is)
    ∙ first-true (has_embedded_end (tree_of item) after) (one_has_embedded_end (trees_of (map tree_of (drop (i + 1) items))) after) has

pub one-lacks : (items : List Expr) (i : ℕ) (item : Expr) (after : Bool) → i < length items → item ≡ get_or items i item → has_embedded_end (tree_of item) after ≡ false →
    one_has_embedded_end (trees_of (map tree_of (drop i items))) after ≡ one_has_embedded_end (trees_of (map tree_of (drop (i + 1) items))) after
one-lacks items i item after within is lacks =
    ap (λ ts. one_has_embedded_end ts after) (trees_of-drop items i item within is)
    ∙ first-false (has_embedded_end (tree_of item) after) (one_has_embedded_end (trees_of (map tree_of (drop (i + 1) items))) after) lacks
