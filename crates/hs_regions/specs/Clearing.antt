-- The region of the empty stream.
use Rattle.std.specs.Prelude.{◌≡◌, List, [], ℕ, length}
use Rattle.hs_base.specs.Regions.{Plan, IsRegion, plan_size}

-- The bytes are the region of the empty stream of each plan whose regions have their length.
abbrev pub AreEmptyRegions : List ℕ → Type 0
AreEmptyRegions region = (plan : Plan) → length region ≡ plan_size plan → IsRegion plan [] region
