-- How many bytes the region of a list has, and how many of these a stream keeps.
use Rattle.std.specs.Prelude.{◌≡◌, ℕ, List}
use Rattle.hs_base.specs.Patterns.{Pattern}
use Rattle.hs_base.specs.Regions.{Plan, IsPlan, plan_size}
use Rattle.hs_kept.specs.KeptRegions.{IsKeptSize}
use Rattle.hs_pieces.specs.LookBack.{begins_with_look_back}

-- the most bytes of a region
abbrev pub greatest_size : ℕ
greatest_size = 16777216

-- The plan is that of the patterns: their identifiers, and the chains that begin with a piece that looks back.
pub record IsPlanOf (P : List Pattern) (plan : Plan) : Type 0 where
  pub patterns : plan.patterns ≡ P
  pub is_plan : IsPlan plan
  pub looks_back : plan.looks_back ≡ begins_with_look_back

-- The region of the patterns has so many bytes.
pub record IsSizeOf (P : List Pattern) (bytes : ℕ) : Type 0 where
  pub plan : Plan
  pub is : IsPlanOf P plan
  pub size : bytes ≡ plan_size plan

-- A stream keeps so many bytes of it.
pub record IsKeptSizeOf (P : List Pattern) (bytes : ℕ) : Type 0 where
  pub plan : Plan
  pub is : IsPlanOf P plan
  pub size : IsKeptSize plan bytes
