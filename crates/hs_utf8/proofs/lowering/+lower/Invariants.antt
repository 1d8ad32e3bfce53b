use Rattle.std.proofs.Common.{map, take}
use Rattle.hs_expr.specs.Meaning.{tree_of, trees_of}
use Rattle.hs_utf8.specs.Lowered.{AreLowered}
use Rattle.hs_utf8.proofs.lowering.+lower.Given as goal

abbrev pub invariant-lower_all-loop-item : goal.invariant-lower_all-loop-item
invariant-lower_all-loop-item l =
    AreLowered (trees_of (map tree_of (take l.item-index l.items))) (trees_of (map tree_of l.all.items))
