use Rattle.std.proofs.Common.{◌-◌, length}
use Rattle.hs_scan.proofs.WakingLemmas.{AreWokenTo}
use Rattle.hs_scan.proofs.waking.wake_literals.Given as goal

abbrev pub invariant-loop-number : goal.invariant-loop-number
invariant-loop-number g l = AreWokenTo (length l.graph.table.nodes.items) l.graph.wakes l.rows l.fn.marks l.marks l.from

abbrev pub decreases-loop-number : goal.decreases-loop-number
decreases-loop-number g l = l.rows.count - l.from
