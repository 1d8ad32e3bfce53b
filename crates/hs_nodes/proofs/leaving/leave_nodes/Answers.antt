use Rattle.std.proofs.Common.{ℕ, ◌<◌, length, subst, ap, ◌∙◌, arith}
use Rattle.hs_nodes.proofs.NodeLemmas.{there}
use Rattle.hs_nodes.specs.Leaving.{LeavesNodes}
use Rattle.hs_nodes.specs.Walks.{node_ends}
use Rattle.hs_nodes.proofs.LeavingLemmas.{leaves-more, leaves-none, loop-done, none-either}
use Rattle.hs_nodes.proofs.leaving.leave_nodes.Goals as goal

pub loop-k-init : goal.loop-k-init
loop-k-init g c =
    let stop = c.args.stop.now in
    record {
      count = λ i. length c.args.ends.now;
      ticks = omega arith;
      left = leaves-none g.E.Engine.meaning c.args.table.now c.args.region.now stop.prev stop.at stop.past.now stop.next stop.hits.now c.args.ends.now;
      later = λ j high. c.requires.clear j;
      none = λ off j. c.requires.clear j;
    }

pub leave_if-requires-clause-clear : goal.leave_if-requires-clause-clear
leave_if-requires-clause-clear g c = c.loop-k.invariant.later c.loop-k.k (omega arith)

pub loop-k-preserved : goal.loop-k-preserved
loop-k-preserved g c =
    let stop = c.args.stop.now in
    let table = c.args.table.now in
    let k : ℕ = c.loop-k.k in
    let inv = c.loop-k.invariant in
    let below : k < length table.nodes.items = omega (arith, c.loop-k-test.true, c.len-k-end.ensures) in
    let (node, at) = there table.nodes.items k below in
    let put = c.leave_if.ensures in
    record {
      count = put.count ∙ inv.count;
      ticks = omega (arith, inv.ticks, c.leaves_node-left.ensures.ticks);
      left = leaves-more g.E.Engine.meaning table c.args.region.now stop.prev stop.at stop.past.now stop.next stop.hits.now c.loop-k.ends c.leave_if.new.ends k node c.leaves_node-left.result at (λ p is. c.requires.sound.earlier k p node at is) put.others put.own (c.leaves_node-left.ensures.left node at) inv.left;
      later = λ j high. put.others j (λ same. absurd (omega (arith, high, same))) ∙ inv.later j (omega (arith, high));
      none = λ off j. let (before, own) = none-either c.loop-k.is_any c.leaves_node-left.result off in ap (λ es. node_ends es j) (put.none own) ∙ inv.none before j;
    }

pub returns-clause-left : goal.returns-clause-left
returns-clause-left g c =
    let stop = c.args.stop.now in
    let table = c.args.table.now in
    subst (λ n. LeavesNodes g.E.Engine.meaning table c.args.region.now stop.prev stop.at stop.past.now stop.next stop.hits.now c.loop-k.ends n) (loop-done c.loop-k.k c.len-k-end.result (length table.nodes.items) c.loop-k-test.false c.loop-k.auto.k-end (omega (arith, c.len-k-end.ensures, table.nodes.ok))) c.loop-k.invariant.left
