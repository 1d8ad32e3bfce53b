use Rattle.hs_compile.specs.GraphWakes.{AreFirstEngines}
use Rattle.hs_compile.proofs.graph_wakes.first_engines.Given as goal

abbrev pub invariant-loop-number : goal.invariant-loop-number
invariant-loop-number l = AreFirstEngines l.nodes l.number l.list.items
