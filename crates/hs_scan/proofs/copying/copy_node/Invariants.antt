use Rattle.std.proofs.Common.{◌≡◌, ℕ, ◌<◌, ◌≤◌, Some, slice_get}
use Rattle.std.specs.Prelude.{slice_index}
use Rattle.hs_nodes.specs.declared.graph.FieldCopy.{FieldCopy}
use Rattle.hs_scan.specs.Copying.{IsMade, MakesCopies}
use Rattle.hs_scan.proofs.copying.copy_node.Given as goal

abbrev pub invariant-loop-i : goal.invariant-loop-i
invariant-loop-i g l = record {
  makes : MakesCopies l.graph l.layout l.fn.region l.region;
  made : (j : ℕ) (copy : FieldCopy) → slice_index l.graph.node_copies.starts.items l.k ≤ j → j < l.i →
      slice_get l.graph.copies.items (slice_index l.graph.node_copies.numbers.items j) ≡ Some copy →
      IsMade l.graph l.layout l.region copy;
}
