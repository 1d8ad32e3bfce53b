-- What bytes, or the end of the stream, make of a region and report.
use Rattle.std.specs.Prelude.{ℕ, ◌-◌, ◌<◌, List, ◌++◌}
use Rattle.hs_base.specs.Lists.{Each}
use Rattle.hs_base.specs.Literals.{LiteralByte}
use Rattle.hs_base.specs.Regions.{Plan, IsRegion, region_offset}
use Rattle.hs_base.specs.Told.{Pair, IsTold, IsNew, IsLast}
use Rattle.hs_engine.specs.Engines.{Meaning}
use Rattle.hs_layout.specs.Layouts.{Laid}
use Rattle.hs_nodes.specs.declared.graph.Graph.{Graph}
use Rattle.hs_nodes.specs.WellRegions.{RunsLaid}
use Rattle.hs_reports.specs.Identifiers.{numbers_of}
use Rattle.hs_reports.specs.Pairs.{ArePairsOf}

-- The region is that of the stream u with the bytes behind it, and the pairs are the new reports of the bytes.
pub record IsFed (plan : Plan) (u bytes now : List ℕ) (pairs : List Pair) : Type 0 where
  pub region : IsRegion plan (u ++ bytes) now
  pub new : IsNew plan.patterns u bytes pairs

-- the same pairs have both properties
pub record HaveAlike (First Second : List Pair → Type 0) : Type 0 where
  pub pairs : List Pair
  pub first : First pairs
  pub second : Second pairs

module _ {E : Type 0} (meaning : E → Meaning) (graph : Graph E) (literals : List (List LiteralByte)) (l : Laid) where
  -- That holds for every plan that the graph runs, and every stream of bytes that leads to the old region. Where there
  -- is none, the pairs are of the graph's identifiers all the same, with ends from the offset before to that behind.
  pub record Feeds (old new bytes : List ℕ) (pairs : List Pair) : Type 0 where
    pub pairs_are : ArePairsOf (numbers_of graph.identifiers.items) (region_offset old) (region_offset new) pairs
    pub feeds : (plan : Plan) (u : List ℕ) (list : List Pair) →
        RunsLaid meaning graph literals l plan →
        Each (λ b. b < 256) u →
        IsRegion plan u old →
        IsTold plan.patterns u list →
        IsFed plan u bytes new pairs

  -- For every plan that the graph runs, and every stream of bytes that leads to the region, the pairs are the last
  -- reports. Where there is none, they are of the graph's identifiers all the same, and end with the stream or a byte
  -- before.
  pub record Finishes (region : List ℕ) (pairs : List Pair) : Type 0 where
    pub pairs_are : ArePairsOf (numbers_of graph.identifiers.items) (region_offset region - 1) (region_offset region)
        pairs
    pub finishes : (plan : Plan) (u : List ℕ) →
        RunsLaid meaning graph literals l plan →
        Each (λ b. b < 256) u →
        IsRegion plan u region →
        IsLast plan.patterns u pairs

  -- Two streams of which that is the region have the same new reports of the bytes.
  abbrev pub GoesOnAlike : (region bytes : List ℕ) → Type 0
  GoesOnAlike region bytes =
      (plan : Plan) (u v : List ℕ) (list list' : List Pair) →
      RunsLaid meaning graph literals l plan →
      Each (λ b. b < 256) u →
      Each (λ b. b < 256) v →
      IsRegion plan u region →
      IsRegion plan v region →
      IsTold plan.patterns u list →
      IsTold plan.patterns v list' →
      HaveAlike (IsNew plan.patterns u bytes) (IsNew plan.patterns v bytes)

  -- And the same last ones.
  abbrev pub EndsAlike : (region : List ℕ) → Type 0
  EndsAlike region =
      (plan : Plan) (u v : List ℕ) →
      RunsLaid meaning graph literals l plan →
      Each (λ b. b < 256) u →
      Each (λ b. b < 256) v →
      IsRegion plan u region →
      IsRegion plan v region →
      HaveAlike (IsLast plan.patterns u) (IsLast plan.patterns v)
