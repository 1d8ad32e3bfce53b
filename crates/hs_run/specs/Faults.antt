-- The first field of a region that breaks its rule.
use Rattle.std.specs.Prelude.{◌≡◌, ℕ, List, Some, slice_get, slice_index}
use Rattle.hs_base.specs.Regions.{IsHeader, region_offset}
use Rattle.hs_layout.specs.HeaderFaults.{IsHeaderFault}
use Rattle.hs_layout.specs.Layouts.{Laid, field_bytes}
use Rattle.hs_rose.specs.Programs.{Tables}
use Rattle.hs_rose.specs.declared.role.Role.{Role}
use Rattle.hs_run.specs.Chains.{AreParts}
use Rattle.hs_run.specs.Pieces.{IsPart}

-- The first field that may not be that of its role at the offset begins at that byte.
pub record IsPartFault (program : Tables) (l : Laid) (region : List ℕ) (at : ℕ) (place : ℕ) : Type 0 where
  pub number : ℕ
  pub role : Role
  pub there : slice_get program.roles number ≡ Some role
  pub begin : place ≡ slice_index l.starts number
  pub before : AreParts program l region 0 number at
  pub breaks : IsPart program role (field_bytes l region number) at → ⊥

-- The first field of the region that breaks its rule begins at that byte: it is one of the header, or the header keeps
-- to its rules, and it is the field of a piece.
pub data IsFirstFault (program : Tables) (l : Laid) (region : List ℕ) (place : ℕ) : Type 0 where
  header : IsHeaderFault l.singles l.identifiers region place → IsFirstFault program l region place
  part : IsHeader l.singles l.identifiers region →
      IsPartFault program l region (region_offset region) place →
      IsFirstFault program l region place
