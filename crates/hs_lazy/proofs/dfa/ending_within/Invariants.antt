use Rattle.hs_lazy.specs.Ends.{AreSilent}
use Rattle.hs_lazy.proofs.dfa.ending_within.Given as goal

abbrev pub invariant-loop-place : goal.invariant-loop-place
invariant-loop-place l = AreSilent l.trace l.first l.place
