-- The region of the empty stream.
use Rattle.std.specs.Prelude.{◌≡◌, ℕ, List, [], length}
use Rattle.hs_base.specs.Regions.{Plan, IsRegion}
use Rattle.hs_layout.specs.Layouts.{Laid, laid_size}
use Rattle.hs_rose.specs.Programs.{Tables}
use Rattle.hs_run.specs.Feeding.{IsWellRegion}
use Rattle.hs_run.specs.Programs.{FitsLayout, IsRunnable, RunsPlan}

-- The bytes are a well-formed region of each program whose regions have their length.
abbrev pub AreWellRegions : List ℕ → Type 0
AreWellRegions region =
    (program : Tables) (l : Laid) → IsRunnable program → FitsLayout program l → length region ≡ laid_size l →
    IsWellRegion program l region

-- And the region of the empty stream, for each plan that such a program runs.
abbrev pub AreEmptyRegions : List ℕ → Type 0
AreEmptyRegions region =
    (program : Tables) (l : Laid) (plan : Plan) → FitsLayout program l → length region ≡ laid_size l →
    RunsPlan program plan → IsRegion plan [] region
