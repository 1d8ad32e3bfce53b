use Rattle.std.proofs.Common.{◌-◌, ◌≤◌}
use Rattle.hs_nodes.proofs.ends.ChunkEnds.quiet_end.Given as goal

abbrev pub invariant-loop-place : goal.invariant-loop-place
invariant-loop-place l = record {
  within : l.from ≤ l.count;
}

abbrev pub decreases-loop-place : goal.decreases-loop-place
decreases-loop-place l = l.count - l.from
