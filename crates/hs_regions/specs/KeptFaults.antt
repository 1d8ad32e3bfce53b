-- The first part of what is kept of a region that breaks its rule.
use Rattle.std.specs.Prelude.{ℕ, ◌<◌, List, length, slice_range}
use Rattle.hs_base.specs.Literals.{LiteralByte}
use Rattle.hs_base.specs.Regions.{Place, Plan, IsHeader, region_offset}
use Rattle.hs_engine.specs.Engines.{Meaning}
use Rattle.hs_kept.specs.KeptRegions.{AreKeptForms, IsKeptPartAt, IsKeptPlaced, KeptForm}
use Rattle.hs_kept.specs.declared.packing.Packing.{Packing}
use Rattle.hs_layout.specs.HeaderFaults.{IsHeaderFault}
use Rattle.hs_layout.specs.Layouts.{Laid}
use Rattle.hs_nodes.specs.declared.graph.Graph.{Graph}
use Rattle.hs_regions.specs.Packed.{RunsPacked}

module _ (plan : Plan) (kept : List ℕ) where
  -- The first part that breaks its rule, of what is kept of the pieces, begins at that byte, behind parts that keep to
  -- theirs.
  pub record IsPartFault (low : ℕ) : Type 0 where
    pub forms : List KeptForm
    pub are : AreKeptForms plan forms
    pub number : ℕ
    pub high : ℕ
    pub place : Place
    pub form : KeptForm
    pub placed : IsKeptPlaced plan forms number place form low high
    pub before : (k low' high' : ℕ) (p : Place) (other : KeptForm) → k < number →
        IsKeptPlaced plan forms k p other low' high' →
        IsKeptPartAt other (slice_range kept low' high') (region_offset kept)
    pub breaks : IsKeptPartAt form (slice_range kept low high) (region_offset kept) → ⊥

  -- The first part that breaks its rule begins at that byte: it is one of the header, or the header keeps to its rules,
  -- and it is what is kept of a piece.
  pub data IsKeptFault (at : ℕ) : Type 0 where
    header : IsHeaderFault (length plan.singles) (length plan.identifiers) kept at → IsKeptFault at
    part : IsHeader (length plan.singles) (length plan.identifiers) kept → IsPartFault at → IsKeptFault at

module _ {E : Type 0} (meaning : E → Meaning) (graph : Graph E) (l : Laid) (packing : Packing) (kept : List ℕ) where
  -- so it is by each plan that the graph runs
  abbrev pub IsFirstFault : (at : ℕ) → Type 0
  IsFirstFault at =
      (literals : List (List LiteralByte)) (plan : Plan) → RunsPacked meaning graph l packing literals plan →
      IsKeptFault plan kept at

  -- and so it is of what is kept of the pieces
  abbrev pub IsFirstPartFault : (at : ℕ) → Type 0
  IsFirstPartFault at =
      (literals : List (List LiteralByte)) (plan : Plan) → RunsPacked meaning graph l packing literals plan →
      IsPartFault plan kept at
