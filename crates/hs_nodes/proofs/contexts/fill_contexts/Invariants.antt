use Rattle.hs_nodes.proofs.contexts.fill_contexts.Given as goal
use Rattle.hs_nodes.proofs.FillLemmas.{AreFilled}

abbrev pub invariant-loop-j : goal.invariant-loop-j
invariant-loop-j l = AreFilled l.contexts l.chunk.prev l.chunk.at l.chunk.bytes.now l.j
