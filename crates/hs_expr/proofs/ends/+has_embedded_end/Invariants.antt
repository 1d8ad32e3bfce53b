use Rattle.std.proofs.Common.{◌≡◌, ◌≤◌, false, ◌||◌, length, map, drop}
use Rattle.hs_base.specs.EndAssertions.{one_may_consume, sequence_has_embedded_end, one_has_embedded_end}
use Rattle.hs_expr.specs.Meaning.{tree_of, trees_of}
use Rattle.hs_expr.proofs.ends.+has_embedded_end.Given as goal

-- none of the alternatives so far has one, so that one has exactly where one of the others has
abbrev pub invariant-one_has_embedded_end-loop-item : goal.invariant-one_has_embedded_end-loop-item
invariant-one_has_embedded_end-loop-item l =
    one_has_embedded_end (trees_of (map tree_of l.items)) l.after
    ≡ one_has_embedded_end (trees_of (map tree_of (drop l.item-index l.items))) l.after

-- the items from one on have none, and whether they, or what comes behind them, may consume is known
abbrev pub invariant-sequence_has_embedded_end-loop-left : goal.invariant-sequence_has_embedded_end-loop-left
invariant-sequence_has_embedded_end-loop-left l = record {
  within : l.left ≤ length l.items;
  consumed : l.consumed ≡ (l.after || one_may_consume (trees_of (map tree_of (drop l.left l.items))));
  none : sequence_has_embedded_end (trees_of (map tree_of (drop l.left l.items))) l.after ≡ false;
}

abbrev pub decreases-sequence_has_embedded_end-loop-left : goal.decreases-sequence_has_embedded_end-loop-left
decreases-sequence_has_embedded_end-loop-left l = l.left
