-- What holds of packings of a plan's regions.
use Rattle.std.specs.Prelude.{◌≡◌, ◌↔◌, ℕ, ◌<◌, List, length, take}
use Rattle.hs_base.specs.Lists.{Each}
use Rattle.hs_base.specs.Regions.{Plan, IsRegion, IsWellFormed, fields_at}
use Rattle.hs_kept.specs.KeptRegions.{IsKeptRegion, IsKeptSize, IsWellKept}
use Rattle.hs_kept.specs.Packing.{AreNumbers, IsPackedOf, IsPackingFor, packed_size, unpacked}
use Rattle.hs_kept.specs.declared.packing.Packing.{Packing}

-- Its sizes are those of the plan.
abbrev pub PackingsAreSized : Type 0
PackingsAreSized =
    (packing : Packing) (plan : Plan) → IsPackingFor packing plan → IsKeptSize plan (packed_size packing)

-- What is kept of a stream is unpacked to its region.
abbrev pub KeptUnpacks : Type 0
KeptUnpacks =
    (packing : Packing) (plan : Plan) (u kept : List ℕ) → IsPackingFor packing plan → IsKeptRegion plan u kept →
    AreNumbers packing kept × IsRegion plan u (unpacked packing kept)

-- The region of a stream is packed to what is kept of it.
abbrev pub RegionsPack : Type 0
RegionsPack =
    (packing : Packing) (plan : Plan) (u region kept : List ℕ) → IsPackingFor packing plan →
    Each (λ b. b < 256) u → Each (λ b. b < 256) kept → IsRegion plan u region → IsPackedOf packing region kept →
    IsKeptRegion plan u kept

-- Bytes are well kept just where each number is that of a state, and the region to which they are unpacked is well
-- formed.
pub record UnpacksWell (packing : Packing) (plan : Plan) (kept : List ℕ) : Type 0 where
  pub len : length kept ≡ packed_size packing
  pub numbers : AreNumbers packing kept
  pub well : IsWellFormed plan (unpacked packing kept)

abbrev pub WellKeptUnpacksWell : Type 0
WellKeptUnpacksWell =
    (packing : Packing) (plan : Plan) (kept : List ℕ) → IsPackingFor packing plan → Each (λ b. b < 256) kept →
    IsWellKept plan kept ↔ UnpacksWell packing plan kept

-- A well formed region is packed to well kept bytes, with the same header.
pub record PacksWell (plan : Plan) (region kept : List ℕ) : Type 0 where
  pub well : IsWellKept plan kept
  pub header : take (fields_at (length plan.singles) (length plan.identifiers)) kept
      ≡ take (fields_at (length plan.singles) (length plan.identifiers)) region

abbrev pub WellFormedPacksWell : Type 0
WellFormedPacksWell =
    (packing : Packing) (plan : Plan) (region kept : List ℕ) → IsPackingFor packing plan →
    Each (λ b. b < 256) kept → IsWellFormed plan region → IsPackedOf packing region kept →
    PacksWell plan region kept

-- What is unpacked has the header of what is kept.
abbrev pub UnpackedHasHeader : Type 0
UnpackedHasHeader =
    (packing : Packing) (plan : Plan) (kept : List ℕ) → IsPackingFor packing plan → length kept ≡ packed_size packing →
    take (fields_at (length plan.singles) (length plan.identifiers)) (unpacked packing kept)
    ≡ take (fields_at (length plan.singles) (length plan.identifiers)) kept
