use Rattle.std.proofs.Common.{◌≡◌, ◌≤◌, ◌+◌, map, drop, fold, sum}
use Rattle.hs_expr.specs.Counts.{greatest_count, capped, position_counts}
use Rattle.hs_expr.specs.Meaning.{tree_of, trees_of}
use Rattle.hs_expr.proofs.counts.+positions.Given as goal

abbrev pub invariant-sum_of_positions-loop-item : goal.invariant-sum_of_positions-loop-item
invariant-sum_of_positions-loop-item l =
    (l.count ≤ greatest_count)
    × (capped (fold ◌+◌ l.count (position_counts (trees_of (map tree_of (drop l.item-index l.items)))))
    ≡ capped (sum (position_counts (trees_of (map tree_of l.items)))))
