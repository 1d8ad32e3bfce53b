use Rattle.std.proofs.Common.{◌≡◌, map, drop}
use Rattle.hs_base.specs.EndAssertions.{one_may_consume}
use Rattle.hs_expr.specs.Meaning.{tree_of, trees_of}
use Rattle.hs_expr.proofs.ends.+may_consume.Given as goal

-- none of the expressions so far may, so that one may exactly where one of the others may
abbrev pub invariant-one_may_consume-loop-item : goal.invariant-one_may_consume-loop-item
invariant-one_may_consume-loop-item l =
    one_may_consume (trees_of (map tree_of l.items)) ≡ one_may_consume (trees_of (map tree_of (drop l.item-index l.items)))
