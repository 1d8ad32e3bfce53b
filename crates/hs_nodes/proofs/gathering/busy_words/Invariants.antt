use Rattle.std.proofs.Common.{◌-◌, length}
use Rattle.hs_nodes.proofs.GatherLemmas.{AreBusyTo}
use Rattle.hs_nodes.proofs.gathering.busy_words.Given as goal

abbrev pub invariant-loop-k : goal.invariant-loop-k
invariant-loop-k g l = AreBusyTo l.graph l.ends l.busy l.from

abbrev pub decreases-loop-k : goal.decreases-loop-k
decreases-loop-k g l = length l.ends - l.from
