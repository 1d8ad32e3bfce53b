use Rattle.hs_compile.specs.Arranging.{AreMarkedTo}
use Rattle.hs_compile.proofs.arranging.opening_nodes.Given as goal

abbrev pub invariant-loop-k : goal.invariant-loop-k
invariant-loop-k l = AreMarkedTo l.nodes l.k l.openings
