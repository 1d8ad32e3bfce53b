use Rattle.std.proofs.Common.{◌≡◌, map, take}
use Rattle.hs_expr.specs.Meaning.{tree_of}
use Rattle.hs_pieces.proofs.same.+same_tree.Given as goal

abbrev pub invariant-same_trees-loop-k : goal.invariant-same_trees-loop-k
invariant-same_trees-loop-k l = take l.k (map tree_of l.xs) ≡ take l.k (map tree_of l.ys)
