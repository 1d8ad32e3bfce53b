use Rattle.std.proofs.Common.{◌≡◌, map, drop}
use Rattle.hs_expr.specs.Meaning.{tree_of, trees_of}
use Rattle.hs_rose.specs.Marks.{trees_mark}
use Rattle.hs_rose.proofs.marks.+tree_mark.Given as goal

abbrev pub invariant-trees_mark-loop-item : goal.invariant-trees_mark-loop-item
invariant-trees_mark-loop-item l =
    trees_mark (trees_of (map tree_of (drop l.item-index l.items))) l.mark ≡ trees_mark (trees_of (map tree_of l.items)) l.first
