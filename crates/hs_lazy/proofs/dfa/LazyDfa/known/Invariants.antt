use Rattle.std.proofs.Common.{◌≤◌}
use Rattle.hs_lazy.proofs.dfa.LazyDfa.known.Given as goal

abbrev pub invariant-loop-probe : goal.invariant-loop-probe
invariant-loop-probe l = l.probe ≤ 8
