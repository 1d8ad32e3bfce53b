use Rattle.std.proofs.Common.{◌-◌, length}
use Rattle.hs_nodes.proofs.gathering.gather_block.Given as goal
use Rattle.hs_nodes.proofs.GatherLemmas.{IsGatheredTo}

abbrev pub invariant-loop-k : goal.invariant-loop-k
invariant-loop-k g l = IsGatheredTo l.graph l.ends l.all l.block l.at l.from l.fn.table l.table

abbrev pub decreases-loop-k : goal.decreases-loop-k
decreases-loop-k g l = length l.graph.table.nodes.items - l.from
