use Rattle.std.proofs.Common.{◌≤◌, length}
use Rattle.hs_nodes.proofs.catching_up.place_behind_last.Given as goal

abbrev pub invariant-loop-place : goal.invariant-loop-place
invariant-loop-place l = l.place ≤ length l.bytes

abbrev pub decreases-loop-place : goal.decreases-loop-place
decreases-loop-place l = l.place
