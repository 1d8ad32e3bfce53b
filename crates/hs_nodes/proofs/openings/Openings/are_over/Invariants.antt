use Rattle.std.proofs.Common.{◌≡◌, ℕ, ◌-◌, ◌<◌, true, false}
use Rattle.hs_bits.specs.Marks.{is_marked, mark_room}
use Rattle.hs_nodes.proofs.openings.Openings.are_over.Given as goal

abbrev pub invariant-loop-k : goal.invariant-loop-k
invariant-loop-k l = (k : ℕ) → k < l.from → is_marked l.self.nodes k ≡ true → is_marked l.marks k ≡ false

abbrev pub decreases-loop-k : goal.decreases-loop-k
decreases-loop-k l = mark_room l.marks - l.from
