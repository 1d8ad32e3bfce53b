use Rattle.std.proofs.Common.{◌≡◌, ◌<◌, ℕ, Some, slice_get}
use Rattle.hs_kept.specs.Packing.{unpacked}
use Rattle.hs_nodes.specs.declared.table.Node.{Node}
use Rattle.hs_regions.specs.Faults.{IsWellIn}
use Rattle.hs_regions.proofs.checking.node_fault.Given as goal

abbrev pub invariant-loop-k : goal.invariant-loop-k
invariant-loop-k g l =
    (k : ℕ) (node : Node) → k < l.k → slice_get l.graph.table.nodes.items k ≡ Some node → node.start < l.bound →
    IsWellIn g.E.Engine.meaning l.graph (unpacked l.packing l.kept) l.at node.kind node.start node.end
