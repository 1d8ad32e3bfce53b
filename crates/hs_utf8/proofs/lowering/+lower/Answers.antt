use Rattle.hs_utf8.proofs.TreeLists.{lowered-more}
use Rattle.hs_utf8.proofs.lowering.+lower.Goals as goal

pub lower_all-loop-item-preserved : goal.lower_all-loop-item-preserved
lower_all-loop-item-preserved t c =
    lowered-more c.args.items.now c.loop-item.item-index c.item-item.result c.loop-item.all.items c.push.new.self.items
    c.in_ok-lower_node.field-0 c.loop-item-test.true c.item-item.is c.in_ok-push.ensures.items c.loop-item.invariant
    c.in_ok-lower_node.ensures
