use Rattle.std.proofs.Common.{arith}
use Rattle.hs_expr.proofs.TreeLemmas.{trees_of-drop_all}
use Rattle.hs_expr.proofs.counts.+positions.Goals as goal

pub sum_of_positions-returns : goal.sum_of_positions-returns
sum_of_positions-returns t c =
    let last = rw (trees_of-drop_all c.args.items.now c.loop-item.item-index c.loop-item-test.false) at c.loop-item.invariant.1 in
    omega (arith, last)
