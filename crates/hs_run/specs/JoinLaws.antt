-- What holds of programs that are built.
use Rattle.std.specs.Prelude.{◌↔◌, ◌<◌, ℕ, List, map}
use Rattle.std.specs.List.{AllZip}
use Rattle.hs_base.specs.Chains.{Piece, chains_of}
use Rattle.hs_base.specs.Lists.{Each}
use Rattle.hs_base.specs.Patterns.{Pattern}
use Rattle.hs_base.specs.Regions.{IsWellFormed}
use Rattle.hs_rose.specs.Listing.{Asked}
use Rattle.hs_rose.specs.Plans.{AsksFor, IsFitPattern, plan_of}
use Rattle.hs_rose.specs.Programs.{Tables, IsProgramOf}
use Rattle.hs_layout.specs.Layouts.{Laid}
use Rattle.hs_run.specs.Feeding.{IsWellRegion}
use Rattle.hs_run.specs.Programs.{FitsLayout, IsRunnable, RunsPlan}

-- The program of a list can be run.
abbrev pub BuiltProgramsCanRun : Type 0
BuiltProgramsCanRun =
    (t : Tables) (entries : List Asked) (chains : List (List (List Piece))) →
    IsProgramOf t entries chains → IsRunnable t

-- The program of a list runs the plan of its patterns.
abbrev pub BuiltProgramsRun : Type 0
BuiltProgramsRun =
    (t : Tables) (entries : List Asked) (P : List Pattern) →
    IsProgramOf t entries (map (λ x. chains_of x.tree) P) →
    AllZip AsksFor entries P →
    Each IsFitPattern P →
    RunsPlan t (plan_of t P)

-- The bytes may be run as a region of such a program just where they are well formed for the plan.
abbrev pub WellRegionsAreWellFormed : Type 0
WellRegionsAreWellFormed =
    (t : Tables) (entries : List Asked) (P : List Pattern) (l : Laid) (region : List ℕ) →
    IsProgramOf t entries (map (λ x. chains_of x.tree) P) →
    AllZip AsksFor entries P →
    FitsLayout t l →
    Each (λ b. b < 256) region →
    IsWellRegion t l region ↔ IsWellFormed (plan_of t P) region
