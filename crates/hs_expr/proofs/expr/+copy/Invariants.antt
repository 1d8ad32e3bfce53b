use Rattle.std.proofs.Common.{◌≡◌, map, take}
use Rattle.hs_expr.specs.Meaning.{tree_of}
use Rattle.hs_expr.proofs.expr.+copy.Given as goal

abbrev pub invariant-copy_all-loop-item : goal.invariant-copy_all-loop-item
invariant-copy_all-loop-item l = map tree_of l.all.items ≡ map tree_of (take l.item-index l.items)
