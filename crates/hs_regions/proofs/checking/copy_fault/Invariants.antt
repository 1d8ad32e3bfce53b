use Rattle.std.proofs.Common.{◌≡◌, ◌<◌, ◌+◌, ℕ, Some, slice_get}
use Rattle.std.specs.Prelude.{slice_index}
use Rattle.hs_kept.specs.Packing.{unpacked}
use Rattle.hs_nodes.specs.declared.graph.FieldCopy.{FieldCopy}
use Rattle.hs_nodes.specs.declared.table.Node.{Node}
use Rattle.hs_regions.specs.Faults.{IsWellIn}
use Rattle.hs_regions.proofs.checking.copy_fault.Given as goal

abbrev pub invariant-loop-i : goal.invariant-loop-i
invariant-loop-i g l =
    (i : ℕ) (copy : FieldCopy) (node : Node) → i < l.i → slice_get l.graph.copies.items i ≡ Some copy → slice_get l.graph.table.nodes.items copy.node ≡ Some node → slice_index l.layout.starts copy.field < l.bound →
    IsWellIn g.E.Engine.meaning l.graph (unpacked l.packing l.kept) l.at node.kind (slice_index l.layout.starts copy.field) (slice_index l.layout.starts (copy.field + 1))
