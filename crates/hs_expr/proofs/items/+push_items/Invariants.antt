use Rattle.std.proofs.Common.{◌≡◌, ◌++◌, map, drop}
use Rattle.hs_expr.specs.Meaning.{tree_of, trees_of}
use Rattle.hs_expr.specs.Items.{items_of_all}
use Rattle.hs_expr.proofs.items.+push_items.Given as goal

-- what stands there already and what is to come make up the whole
abbrev pub invariant-push_items_of_all-loop-part : goal.invariant-push_items_of_all-loop-part
invariant-push_items_of_all-loop-part l =
    map tree_of l.items.items ++ items_of_all (trees_of (map tree_of (drop l.part-index l.parts)))
    ≡ map tree_of l.initial.items.items ++ items_of_all (trees_of (map tree_of l.parts))
