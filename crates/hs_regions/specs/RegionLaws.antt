-- What holds of regions of a graph, and of what is kept of them.
use Rattle.std.specs.Prelude.{◌↔◌, ℕ, ◌<◌, List}
use Rattle.hs_base.specs.Lists.{Each}
use Rattle.hs_base.specs.Literals.{LiteralByte}
use Rattle.hs_base.specs.Regions.{Plan, IsWellFormed}
use Rattle.hs_engine.specs.Engines.{Meaning}
use Rattle.hs_kept.specs.KeptRegions.{IsWellKept}
use Rattle.hs_kept.specs.declared.packing.Packing.{Packing}
use Rattle.hs_layout.specs.Layouts.{Laid}
use Rattle.hs_nodes.specs.Graphs.{IsGraphSound}
use Rattle.hs_nodes.specs.WellRegions.{IsWellRegion, RunsLaid}
use Rattle.hs_nodes.specs.declared.graph.Graph.{Graph}
use Rattle.hs_regions.specs.KeptFaults.{IsKeptFault}
use Rattle.hs_regions.specs.Packed.{IsWellPacked, RunsPacked}

-- Bytes may be run as a region of a graph just where they are well formed for the plan that it runs.
abbrev pub GraphRegionsAreWellFormed : {E : Type 0} → (E → Meaning) → Type 0
GraphRegionsAreWellFormed {E} meaning =
    (graph : Graph E) (literals : List (List LiteralByte)) (l : Laid) (plan : Plan) (region : List ℕ) →
    IsGraphSound meaning graph literals l →
    RunsLaid meaning graph literals l plan →
    Each (λ b. b < 256) region →
    IsWellRegion meaning graph l region ↔ IsWellFormed plan region

-- And they may be what is kept of such a region just where they are well kept for that plan.
abbrev pub GraphKeepsWell : {E : Type 0} → (E → Meaning) → Type 0
GraphKeepsWell {E} meaning =
    (graph : Graph E) (literals : List (List LiteralByte)) (l : Laid) (packing : Packing) (plan : Plan)
    (kept : List ℕ) →
    RunsPacked meaning graph l packing literals plan →
    Each (λ b. b < 256) kept →
    IsWellPacked meaning graph l packing kept ↔ IsWellKept plan kept

-- Where a part breaks its rule they aren't.
abbrev pub FaultsAreNotWell : Type 0
FaultsAreNotWell = (plan : Plan) (kept : List ℕ) (at : ℕ) → IsKeptFault plan kept at → IsWellKept plan kept → ⊥
