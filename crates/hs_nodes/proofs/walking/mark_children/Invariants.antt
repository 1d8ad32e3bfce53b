use Rattle.std.proofs.Common.{◌≡◌, ◌⊎◌, ℕ, ◌<◌, ◌≤◌, true, length}
use Rattle.std.specs.Prelude.{slice_get, slice_index, Some}
use Rattle.hs_bits.specs.Marks.{is_marked}
use Rattle.hs_nodes.specs.Sparing.{IsSpared}
use Rattle.hs_nodes.specs.Walks.{AreMoreMarks}
use Rattle.hs_nodes.specs.declared.table.Node.{Node}
use Rattle.hs_nodes.proofs.walking.mark_children.Given as goal

abbrev pub invariant-loop-i : goal.invariant-loop-i
invariant-loop-i g l = record {
  more : AreMoreMarks (length l.table.nodes.items) l.initial.marks l.marks;
  needed : (i : ℕ) (node : Node) → slice_index l.table.child_starts.items l.k ≤ i → i < l.i → slice_get l.table.nodes.items (slice_index l.table.children.items i) ≡ Some node →
      (is_marked l.marks (slice_index l.table.children.items i) ≡ true) ⊎ IsSpared node.kind l.foretold.hits.now l.count l.ends;
}
