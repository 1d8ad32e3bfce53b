use Rattle.std.proofs.Common.{map, drop}
use Rattle.hs_base.specs.Items.{items_of_all}
use Rattle.hs_expr.specs.Meaning.{tree_of, trees_of}
use Rattle.hs_support.proofs.PieceLemmas.{PassesUntil}
use Rattle.hs_support.proofs.pieces.+walk_on.Given as goal

-- the items so far are behind the walk, and the others are to come
abbrev pub invariant-walk_on_through_all-loop-item : goal.invariant-walk_on_through_all-loop-item
invariant-walk_on_through_all-loop-item l =
    PassesUntil l.fn.walk (items_of_all (trees_of (map tree_of l.items))) l.now
    (items_of_all (trees_of (map tree_of (drop l.item-index l.items))))
