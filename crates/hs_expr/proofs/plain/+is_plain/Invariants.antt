use Rattle.std.proofs.Common.{◌↔◌, map, drop}
use Rattle.hs_base.specs.WrittenOut.{ArePlain}
use Rattle.hs_expr.specs.Meaning.{tree_of, trees_of}
use Rattle.hs_expr.proofs.plain.+is_plain.Given as goal

-- those so far are plain, so that all are exactly where the others are
abbrev pub invariant-are_plain-loop-item : goal.invariant-are_plain-loop-item
invariant-are_plain-loop-item l =
    ArePlain (trees_of (map tree_of l.items)) ↔ ArePlain (trees_of (map tree_of (drop l.item-index l.items)))
