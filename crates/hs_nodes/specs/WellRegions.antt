-- Bytes that may be run as a region of a graph.
use Rattle.std.specs.Prelude.{◌≡◌, ℕ, List, length, Some, slice_get}
use Rattle.hs_base.specs.Literals.{LiteralByte}
use Rattle.hs_base.specs.Regions.{Plan, IsHeader, region_offset}
use Rattle.hs_engine.specs.Engines.{Meaning}
use Rattle.hs_layout.specs.Layouts.{Laid, field_bytes, laid_size}
use Rattle.hs_nodes.specs.Graphs.{RunsPlan, plan_layout}
use Rattle.hs_nodes.specs.Nodes.{IsWellPart}
use Rattle.hs_nodes.specs.Walks.{AreNodesWell}
use Rattle.hs_nodes.specs.declared.graph.FieldCopy.{FieldCopy}
use Rattle.hs_nodes.specs.declared.graph.Graph.{Graph}
use Rattle.hs_nodes.specs.declared.table.Node.{Node}

module _ {E : Type 0} (meaning : E → Meaning) (graph : Graph E) where
  -- The bytes may be run as a region: they have its length, and what is kept of each node may stand at their offset.
  pub record FitsRegion (l : Laid) (region : List ℕ) : Type 0 where
    pub sized : length region ≡ laid_size l
    pub nodes : AreNodesWell meaning graph.table region (region_offset region)

  -- each field that is a copy of a node's may stand there
  abbrev pub AreCopiesWell : Laid → (region : List ℕ) (at : ℕ) → Type 0
  AreCopiesWell l region at =
      (i : ℕ) (copy : FieldCopy) (node : Node) →
      slice_get graph.copies.items i ≡ Some copy →
      slice_get graph.table.nodes.items copy.node ≡ Some node →
      IsWellPart meaning graph.table.engines.items node.kind (field_bytes l region copy.field) at

  -- And its header and its copies keep to their rules.
  pub record IsWellRegion (l : Laid) (region : List ℕ) : Type 0 where
    pub fits : FitsRegion l region
    pub copies : AreCopiesWell l region (region_offset region)
    pub header : IsHeader l.singles l.identifiers region

module _ {E : Type 0} (meaning : E → Meaning) (graph : Graph E) (literals : List (List LiteralByte)) (l : Laid) where
  -- The graph runs the plan, whose regions have that layout.
  pub record RunsLaid (plan : Plan) : Type 0 where
    pub runs : RunsPlan meaning graph literals plan
    pub laid : l ≡ plan_layout plan
