use Rattle.hs_nodes.proofs.gathering.gather_all.Given as goal
use Rattle.hs_nodes.proofs.GatherLemmas.{IsGatheredTo}

abbrev pub invariant-loop-k : goal.invariant-loop-k
invariant-loop-k g l = IsGatheredTo l.graph l.ends l.all 0 l.at l.k l.fn.table l.table
