use Rattle.std.proofs.Common.{◌≡◌, ◌≤◌, map, drop, fold, Some}
use Rattle.std.specs.Option.{option_map}
use Rattle.hs_expr.specs.Counts.{greatest_count, capped, greatest_widths, add_bounds, greater_bound}
use Rattle.hs_expr.specs.Meaning.{tree_of, trees_of}
use Rattle.hs_expr.proofs.counts.+greatest_width.Given as goal

abbrev pub invariant-sum_of_greatest_widths-loop-item : goal.invariant-sum_of_greatest_widths-loop-item
invariant-sum_of_greatest_widths-loop-item l =
    (l.width ≤ greatest_count)
    × (option_map capped (fold add_bounds (Some l.width) (greatest_widths (trees_of (map tree_of (drop l.item-index l.items)))))
    ≡ option_map capped (fold add_bounds (Some 0) (greatest_widths (trees_of (map tree_of l.items)))))

abbrev pub invariant-greatest_of_greatest_widths-loop-item : goal.invariant-greatest_of_greatest_widths-loop-item
invariant-greatest_of_greatest_widths-loop-item l =
    (l.width ≤ greatest_count)
    × (option_map capped (fold greater_bound (Some l.width) (greatest_widths (trees_of (map tree_of (drop l.item-index l.items)))))
    ≡ option_map capped (fold greater_bound (Some 0) (greatest_widths (trees_of (map tree_of l.items)))))
