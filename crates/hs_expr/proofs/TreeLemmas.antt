-- The equations of `tree_of`, one for each variant.
use Rattle.std.proofs.Common.{◌≡◌, ℕ, suc, ◌+◌, ◌<◌, ◌≤◌, map, drop, length, get_or, List, ◌∷◌, Option, Vec, Box, Global, sym, ap, ◌∙◌, add-one, drop-cons, drop_of_length-le}
use Rattle.hs_base.specs.Trees.{Tree, empty, class, points, assert, cat, alt, repeat, none, more}
use Rattle.hs_base.specs.ByteSets.{members}
use Rattle.hs_base.specs.declared.byte_set.ByteSet.{ByteSet}
use Rattle.hs_base.specs.declared.assertion.Assertion.{Assertion}
use Rattle.hs_expr.specs.Meaning.{tree_of, trees_of, node_tree}
use Rattle.hs_expr.specs.declared.expr.Expr.{Expr, Expr-F, fold-roll-Expr}
use Rattle.hs_expr.specs.declared.expr.Expr.TheVariants.{Empty, Class, Points, Assert, Cat, Alt, Repeat, rolls-Empty, rolls-Class, rolls-Points, rolls-Assert, rolls-Cat, rolls-Alt, rolls-Repeat}

pub tree_of-Empty : tree_of Empty ≡ empty
tree_of-Empty = ap tree_of (sym rolls-Empty) ∙ fold-roll-Expr Tree node_tree Expr-F.Empty

pub tree_of-Class : (set : ByteSet) → tree_of (Class set) ≡ class (members set)
tree_of-Class set = ap tree_of (sym (rolls-Class set)) ∙ fold-roll-Expr Tree node_tree (Expr-F.Class set)

pub tree_of-Points : (ranges : Vec (ℕ × ℕ) Global) → tree_of (Points ranges) ≡ points ranges.items
tree_of-Points ranges = ap tree_of (sym (rolls-Points ranges)) ∙ fold-roll-Expr Tree node_tree (Expr-F.Points ranges)

pub tree_of-Assert : (assertion : Assertion) → tree_of (Assert assertion) ≡ assert assertion
tree_of-Assert assertion = ap tree_of (sym (rolls-Assert assertion)) ∙ fold-roll-Expr Tree node_tree (Expr-F.Assert assertion)

pub tree_of-Cat : (items : Vec Expr Global) → tree_of (Cat items) ≡ cat (trees_of (map tree_of items.items))
tree_of-Cat items = ap tree_of (sym (rolls-Cat items)) ∙ fold-roll-Expr Tree node_tree (Expr-F.Cat items)

pub tree_of-Alt : (items : Vec Expr Global) → tree_of (Alt items) ≡ alt (trees_of (map tree_of items.items))
tree_of-Alt items = ap tree_of (sym (rolls-Alt items)) ∙ fold-roll-Expr Tree node_tree (Expr-F.Alt items)

pub tree_of-Repeat : (body : Box Expr Global) (least : ℕ) (greatest : Option ℕ) →
    tree_of (Repeat body least greatest) ≡ repeat (tree_of body.value) least greatest
tree_of-Repeat body least greatest =
    ap tree_of (sym (rolls-Repeat body least greatest)) ∙ fold-roll-Expr Tree node_tree (Expr-F.Repeat body least greatest)

-- the trees of the items from one on: its own, and those behind it
pub trees_of-drop : (items : List Expr) (i : ℕ) (item : Expr) → i < length items → item ≡ get_or items i item →
    trees_of (map tree_of (drop i items)) ≡ more (tree_of item) (trees_of (map tree_of (drop (i + 1) items)))
trees_of-drop items i item within is =
    ap (λ rest. trees_of (map tree_of rest))
    (drop-cons items i item within ∙ ap (λ x. x ∷ drop (suc i) items) (sym is) ∙ ap (λ n. item ∷ drop n items) (sym (add-one i)))

-- behind the last item there is no tree
pub trees_of-drop_all : (items : List Expr) (i : ℕ) → length items ≤ i → trees_of (map tree_of (drop i items)) ≡ none
trees_of-drop_all items i past = ap (λ rest. trees_of (map tree_of rest)) (drop_of_length-le items past)
