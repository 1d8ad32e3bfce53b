use Rattle.std.proofs.Common.{◌≤◌, ◌-◌}
use Rattle.hs_lazy.specs.Ends.{AreSilent}
use Rattle.hs_lazy.proofs.dfa.next_ending.Given as goal

abbrev pub invariant-loop-from : goal.invariant-loop-from
invariant-loop-from l = record {
  from : l.first ≤ l.from;
  within : l.from ≤ l.count;
  silent : AreSilent l.trace l.first l.from;
}

abbrev pub decreases-loop-from : goal.decreases-loop-from
decreases-loop-from l = l.count - l.from
