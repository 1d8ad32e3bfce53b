-- The plain tree that an `Expr` stands for.
pub use Rattle.hs_base.specs.Trees.{trees_of}
use Rattle.hs_base.specs.Trees.{Tree, empty, class, points, assert, cat, alt, repeat}
use Rattle.hs_base.specs.ByteSets.{members}
use Rattle.hs_expr.specs.declared.expr.Expr.{Expr}
use Rattle.hs_expr.specs.declared.expr.Expr.TheOpen.{Expr-F}
use Rattle.hs_expr.specs.declared.expr.Expr.TheFolds.{fold-Expr}

-- one node, with the trees of its children in their places
abbrev pub node_tree : Expr-F Tree → Tree
node_tree Expr-F.Empty = empty
node_tree (Expr-F.Class set) = class (members set)
node_tree (Expr-F.Points ranges) = points ranges.items
node_tree (Expr-F.Assert assertion) = assert assertion
node_tree (Expr-F.Cat items) = cat (trees_of items.items)
node_tree (Expr-F.Alt items) = alt (trees_of items.items)
node_tree (Expr-F.Repeat body least greatest) = repeat body.value least greatest

abbrev pub tree_of : Expr → Tree
tree_of = fold-Expr Tree node_tree
