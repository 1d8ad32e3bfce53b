use Rattle.std.proofs.Common.{◌-◌}
use Rattle.hs_scan.proofs.HitLemmas.{AreForgottenTo}
use Rattle.hs_scan.proofs.hits.forget_hits.Given as goal

abbrev pub invariant-loop-number : goal.invariant-loop-number
invariant-loop-number l = AreForgottenTo l.rows l.hits l.from

abbrev pub decreases-loop-number : goal.decreases-loop-number
decreases-loop-number l = l.rows.count - l.from
