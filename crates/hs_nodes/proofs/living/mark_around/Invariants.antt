use Rattle.std.proofs.Common.{◌≡◌, ◌-◌, length}
use Rattle.hs_nodes.proofs.LivingLemmas.{AreMarkedTo}
use Rattle.hs_nodes.proofs.living.mark_around.Given as goal

abbrev pub invariant-loop-place : goal.invariant-loop-place
invariant-loop-place l = record {
  room : length l.marks ≡ length l.fn.marks;
  are : AreMarkedTo l.nodes l.region l.marks l.past l.from;
}

abbrev pub decreases-loop-place : goal.decreases-loop-place
decreases-loop-place l = length l.region - l.from
