-- Whether what is kept of a node has the size of what it runs, and can be asked for.
use Rattle.std.specs.Prelude.{◌≡◌, ℕ, ◌+◌, ◌-◌, ◌≤◌, List, true, Some, slice_get, slice_index}
use Rattle.hs_engine.specs.Engines.{Meaning}
use Rattle.hs_kept.specs.Parts.{IsPartIn}
use Rattle.hs_kept.specs.declared.packing.Packing.{Packing}
use Rattle.hs_layout.specs.Layouts.{Laid}
use Rattle.hs_nodes.specs.Graphs.{keeps_field}
use Rattle.hs_nodes.specs.Nodes.{IsEngineSound}
use Rattle.hs_nodes.specs.declared.graph.FieldCopy.{FieldCopy}
use Rattle.hs_nodes.specs.declared.graph.Graph.{Graph}
use Rattle.hs_nodes.specs.declared.table.Node.{Node}
use Rattle.hs_nodes.specs.declared.table.NodeKind.{NodeKind}
use Rattle.hs_nodes.specs.declared.table.NodeKind.TheVariants.{Engine, Literal, FirstLiteral, LookBack}

module _ {E : Type 0} (meaning : E → Meaning) where
  -- What is kept of a node of that kind may have that size.
  abbrev pub IsPartSized : (engines : List E) → NodeKind → (size : ℕ) → Type 0
  IsPartSized engines (Engine number null) size = IsEngineSound meaning engines number size
  IsPartSized engines (Literal number len) size = (len ≤ 32) × (size ≡ 4)
  IsPartSized engines (FirstLiteral number len) size = Unit {0}
  IsPartSized engines (LookBack pair) size = Unit {0}

  -- What is kept of each node lies in a region so that the packing knows its part, and has that size.
  pub record ArePartsIn (graph : Graph E) (packing : Packing) : Type 0 where
    pub parts : (k : ℕ) (node : Node) → slice_get graph.table.nodes.items k ≡ Some node →
        keeps_field node.kind ≡ true → IsPartIn packing node.start node.end
    pub sized : (k : ℕ) (node : Node) → slice_get graph.table.nodes.items k ≡ Some node →
        IsPartSized graph.table.engines.items node.kind (node.end - node.start)

-- so does each copy of what is kept of a node
abbrev pub AreCopiesIn : {E : Type 0} → Graph E → Laid → Packing → Type 0
AreCopiesIn graph l packing =
    (i : ℕ) (copy : FieldCopy) (node : Node) →
    slice_get graph.copies.items i ≡ Some copy →
    slice_get graph.table.nodes.items copy.node ≡ Some node →
    keeps_field node.kind ≡ true →
    IsPartIn packing (slice_index l.starts copy.field) (slice_index l.starts (copy.field + 1))
