-- The tree of each node.
use Rattle.std.proofs.Common.{◌≡◌, ℕ, Option, Box, Global, sym, ap, ◌∙◌}
use Rattle.hs_base.specs.Trees.{Tree, empty, assert, repeat}
use Rattle.hs_base.specs.declared.assertion.Assertion.{Assertion}
use Rattle.hs_expr.specs.Meaning.{tree_of, node_tree}
use Rattle.hs_expr.specs.declared.expr.Expr.{Expr, Expr-F, fold-roll-Expr}
use Rattle.hs_expr.specs.declared.expr.Expr.TheVariants.{Empty, Assert, Repeat, rolls-Empty, rolls-Assert, rolls-Repeat}

pub tree-Empty : tree_of Empty ≡ empty
tree-Empty = ap tree_of (sym rolls-Empty) ∙ fold-roll-Expr Tree node_tree Expr-F.Empty

pub tree-Assert : (a : Assertion) → tree_of (Assert a) ≡ assert a
tree-Assert a = ap tree_of (sym (rolls-Assert a)) ∙ fold-roll-Expr Tree node_tree (Expr-F.Assert a)

pub tree-Repeat : (body : Box Expr Global) (least : ℕ) (greatest : Option ℕ) → tree_of (Repeat body least greatest) ≡ repeat (tree_of body.value) least greatest
tree-Repeat body least greatest =
    ap tree_of (sym (rolls-Repeat body least greatest)) ∙ fold-roll-Expr Tree node_tree (Expr-F.Repeat body least greatest)
