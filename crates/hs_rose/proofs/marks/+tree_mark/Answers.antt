use Rattle.hs_expr.proofs.TreeLemmas.{trees_of-drop_all}
use Rattle.hs_rose.proofs.marks.+tree_mark.Goals as goal

pub trees_mark-returns : goal.trees_mark-returns
trees_mark-returns t c = rw (trees_of-drop_all c.args.items.now c.loop-item.item-index c.loop-item-test.false) at c.loop-item.invariant
