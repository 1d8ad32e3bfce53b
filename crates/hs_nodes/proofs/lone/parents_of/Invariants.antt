use Rattle.std.proofs.Common.{◌≤◌, length}
use Rattle.hs_bits.specs.Marks.{mark_room}
use Rattle.hs_nodes.proofs.LoneLemmas.{AreParentsTo}
use Rattle.hs_nodes.proofs.lone.parents_of.Given as goal

abbrev pub invariant-loop-i : goal.invariant-loop-i
invariant-loop-i l = record {
  room : length l.nodes ≤ mark_room l.parents;
  marked : AreParentsTo l.nodes l.parents l.i;
}
