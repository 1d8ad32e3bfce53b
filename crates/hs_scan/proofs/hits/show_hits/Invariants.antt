use Rattle.std.proofs.Common.{◌-◌}
use Rattle.hs_scan.proofs.HitLemmas.{AreShownTo}
use Rattle.hs_scan.proofs.hits.show_hits.Given as goal

abbrev pub invariant-loop-number : goal.invariant-loop-number
invariant-loop-number l = AreShownTo l.rows l.hits l.from

abbrev pub decreases-loop-number : goal.decreases-loop-number
decreases-loop-number l = l.rows.count - l.from
