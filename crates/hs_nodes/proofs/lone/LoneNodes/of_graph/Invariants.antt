use Rattle.hs_nodes.proofs.LoneLemmas.{AreLoneTo}
use Rattle.hs_nodes.proofs.lone.LoneNodes.of_graph.Given as goal

abbrev pub invariant-loop-k : goal.invariant-loop-k
invariant-loop-k g l = AreLoneTo l.graph l.identifiers.items l.k
