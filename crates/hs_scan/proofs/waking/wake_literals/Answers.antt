use Rattle.std.proofs.Common.{◌+◌, length, refl}
use Rattle.hs_scan.proofs.WakingLemmas.{woken-all, woken-more, woken-none}
use Rattle.hs_scan.proofs.waking.wake_literals.Goals as goal

pub loop-number-init : goal.loop-number-init
loop-number-init g c = woken-none (length c.args.graph.now.table.nodes.items) c.args.graph.now.wakes c.args.rows.now c.args.marks.now c.requires.below

pub loop-number-preserved : goal.loop-number-preserved
loop-number-preserved g c =
    let next = c.in-Some.ensures.next in
    let number = c.in-Some.number in
    woken-more (length c.args.graph.now.table.nodes.items) c.args.graph.now.wakes c.args.rows.now c.args.marks.now c.loop-number.marks c.wake_literal.new.marks c.loop-number.from number (number + 1) refl next.high next.least c.wake_literal.ensures.more c.wake_literal.ensures.woken
    c.loop-number.invariant

pub returns-clause-woken : goal.returns-clause-woken
returns-clause-woken g c =
    woken-all (length c.args.graph.now.table.nodes.items) c.args.graph.now.wakes c.args.rows.now c.args.marks.now c.loop-number.marks c.loop-number.from c.next_hit.ensures.marked c.in_default.ensures.next c.loop-number.invariant
