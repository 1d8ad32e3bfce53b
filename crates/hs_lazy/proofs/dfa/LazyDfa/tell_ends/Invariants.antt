use Rattle.std.proofs.Common.{◌≤◌, ◌-◌}
use Rattle.hs_lazy.specs.Ends.{AreTraceEnds}
use Rattle.hs_lazy.proofs.dfa.LazyDfa.tell_ends.Given as goal

abbrev pub invariant-loop-place : goal.invariant-loop-place
invariant-loop-place l = record {
  from : l.from ≤ l.count;
  ends : AreTraceEnds l.self.ends.items l.trace l.from l.ends.rows;
}

abbrev pub decreases-loop-place : goal.decreases-loop-place
decreases-loop-place l = l.count - l.from
