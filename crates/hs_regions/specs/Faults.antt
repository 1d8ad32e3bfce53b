-- The first field of a region that breaks its rule, among those that begin before a byte.
use Rattle.std.specs.Prelude.{◌≡◌, ℕ, ◌+◌, ◌<◌, List, Some, slice_get, slice_index, slice_range}
use Rattle.hs_engine.specs.Engines.{Meaning}
use Rattle.hs_layout.specs.Layouts.{Laid}
use Rattle.hs_nodes.specs.Nodes.{IsWellPart}
use Rattle.hs_nodes.specs.declared.graph.FieldCopy.{FieldCopy}
use Rattle.hs_nodes.specs.declared.graph.Graph.{Graph}
use Rattle.hs_nodes.specs.declared.table.Node.{Node}
use Rattle.hs_nodes.specs.declared.table.NodeKind.{NodeKind}

-- What is kept of a node of that kind stands from the first to before the second byte: it is the node's own field, or a
-- copy.
pub data IsKeptIn {E : Type 0} (graph : Graph E) (l : Laid) (kind : NodeKind) (low high : ℕ) : Type 0 where
  own : (k : ℕ) (node : Node) →
      slice_get graph.table.nodes.items k ≡ Some node →
      kind ≡ node.kind →
      low ≡ node.start →
      high ≡ node.end →
      IsKeptIn graph l kind low high
  copied : (i : ℕ) (copy : FieldCopy) (node : Node) →
      slice_get graph.copies.items i ≡ Some copy →
      slice_get graph.table.nodes.items copy.node ≡ Some node →
      kind ≡ node.kind →
      low ≡ slice_index l.starts copy.field →
      high ≡ slice_index l.starts (copy.field + 1) →
      IsKeptIn graph l kind low high

module _ {E : Type 0} (meaning : E → Meaning) (graph : Graph E) (region : List ℕ) (at : ℕ) where
  -- what is kept of a node of that kind may stand at the offset, from the one to before the other byte
  abbrev pub IsWellIn : NodeKind → (low high : ℕ) → Type 0
  IsWellIn kind low high = IsWellPart meaning graph.table.engines.items kind (slice_range region low high) at

  -- so may each node's own field that begins before that byte
  abbrev pub AreNodesWellBefore : (bound : ℕ) → Type 0
  AreNodesWellBefore bound =
      (k : ℕ) (node : Node) → slice_get graph.table.nodes.items k ≡ Some node → node.start < bound →
      IsWellIn node.kind node.start node.end

  -- The first node of which what is kept may not stand there has its field from that byte on.
  pub record IsNodeFault (place : ℕ) : Type 0 where
    pub number : ℕ
    pub node : Node
    pub there : slice_get graph.table.nodes.items number ≡ Some node
    pub begin : place ≡ node.start
    pub before : (k : ℕ) (other : Node) → k < number → slice_get graph.table.nodes.items k ≡ Some other →
        other.start < place → IsWellIn other.kind other.start other.end
    pub breaks : IsWellIn node.kind node.start node.end → ⊥

  module _ (l : Laid) where
    -- so may each copy that begins before that byte
    abbrev pub AreCopiesWellBefore : (bound : ℕ) → Type 0
    AreCopiesWellBefore bound =
        (i : ℕ) (copy : FieldCopy) (node : Node) →
        slice_get graph.copies.items i ≡ Some copy →
        slice_get graph.table.nodes.items copy.node ≡ Some node →
        slice_index l.starts copy.field < bound →
        IsWellIn node.kind (slice_index l.starts copy.field) (slice_index l.starts (copy.field + 1))

    -- The first copy that may not stand there begins at that byte.
    pub record IsCopyFault (place : ℕ) : Type 0 where
      pub number : ℕ
      pub copy : FieldCopy
      pub node : Node
      pub there : slice_get graph.copies.items number ≡ Some copy
      pub of_node : slice_get graph.table.nodes.items copy.node ≡ Some node
      pub begin : place ≡ slice_index l.starts copy.field
      pub before : (i : ℕ) (other : FieldCopy) (own : Node) → i < number →
          slice_get graph.copies.items i ≡ Some other →
          slice_get graph.table.nodes.items other.node ≡ Some own →
          slice_index l.starts other.field < place →
          IsWellIn own.kind (slice_index l.starts other.field) (slice_index l.starts (other.field + 1))
      pub breaks :
          IsWellIn node.kind (slice_index l.starts copy.field) (slice_index l.starts (copy.field + 1)) → ⊥

    -- each field that begins before that byte may stand there
    abbrev pub AreFieldsWellBefore : (bound : ℕ) → Type 0
    AreFieldsWellBefore bound =
        (kind : NodeKind) (low high : ℕ) → IsKeptIn graph l kind low high → low < bound → IsWellIn kind low high

    -- The first field that may not stand there begins at that byte: each one that begins before it may.
    pub record IsFieldFault (place : ℕ) : Type 0 where
      pub kind : NodeKind
      pub end : ℕ
      pub there : IsKeptIn graph l kind place end
      pub before : AreFieldsWellBefore place
      pub breaks : IsWellIn kind place end → ⊥
