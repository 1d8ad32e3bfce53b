-- What is kept of regions that a graph runs.
use Rattle.std.specs.Prelude.{◌≡◌, ℕ, List, length}
use Rattle.hs_base.specs.Literals.{LiteralByte}
use Rattle.hs_base.specs.Regions.{Plan}
use Rattle.hs_engine.specs.Engines.{Meaning}
use Rattle.hs_kept.specs.Packing.{AreNumbers, IsPackingFor, packed_size, unpacked}
use Rattle.hs_kept.specs.declared.packing.Packing.{Packing}
use Rattle.hs_layout.specs.Layouts.{Laid}
use Rattle.hs_nodes.specs.Graphs.{IsGraphSound}
use Rattle.hs_nodes.specs.WellRegions.{IsWellRegion, RunsLaid}
use Rattle.hs_nodes.specs.declared.graph.Graph.{Graph}

module _ {E : Type 0} (meaning : E → Meaning) (graph : Graph E) (l : Laid) (packing : Packing) where
  -- The graph can be run with those literals, and runs the plan over regions of that layout, of which the packing keeps
  -- what streams keep.
  pub record RunsPacked (literals : List (List LiteralByte)) (plan : Plan) : Type 0 where
    pub sound : IsGraphSound meaning graph literals l
    pub runs : RunsLaid meaning graph literals l plan
    pub packing_for : IsPackingFor packing plan

  -- So it does for some literals and a plan.
  pub record RunsSomePacked : Type 0 where
    pub literals : List (List LiteralByte)
    pub plan : Plan
    pub is : RunsPacked literals plan

  -- The bytes may be what is kept of a region of the graph: they have the length, each number is that of a state, and
  -- the region to which they are unpacked may be run.
  pub record IsWellPacked (kept : List ℕ) : Type 0 where
    pub len : length kept ≡ packed_size packing
    pub numbers : AreNumbers packing kept
    pub well : IsWellRegion meaning graph l (unpacked packing kept)
