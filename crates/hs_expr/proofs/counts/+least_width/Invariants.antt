use Rattle.std.proofs.Common.{◌≡◌, ◌≤◌, ◌+◌, min, map, drop, fold, sum}
use Rattle.hs_expr.specs.Counts.{greatest_count, capped, least_widths}
use Rattle.hs_expr.specs.Meaning.{tree_of, trees_of}
use Rattle.hs_expr.proofs.counts.+least_width.Given as goal

abbrev pub invariant-sum_of_least_widths-loop-item : goal.invariant-sum_of_least_widths-loop-item
invariant-sum_of_least_widths-loop-item l =
    (l.width ≤ greatest_count)
    × (capped (fold ◌+◌ l.width (least_widths (trees_of (map tree_of (drop l.item-index l.items)))))
    ≡ capped (sum (least_widths (trees_of (map tree_of l.items)))))

abbrev pub invariant-least_of_least_widths-loop-item : goal.invariant-least_of_least_widths-loop-item
invariant-least_of_least_widths-loop-item l =
    (l.width ≤ greatest_count)
    × (capped (fold min l.width (least_widths (trees_of (map tree_of (drop l.item-index l.items)))))
    ≡ capped (fold min greatest_count (least_widths (trees_of (map tree_of l.items)))))
