-- Which plans a program's graph runs, and what its database is for.
use Rattle.std.specs.Prelude.{List, map}
use Rattle.std.specs.List.{AllZip}
use Rattle.hs_base.specs.Chains.{chains_of}
use Rattle.hs_base.specs.Lists.{Each}
use Rattle.hs_base.specs.Patterns.{Pattern}
use Rattle.hs_base.specs.Regions.{Plan}
use Rattle.hs_kept.specs.Packing.{IsPackingFor}
use Rattle.hs_kept.specs.declared.packing.Packing.{Packing}
use Rattle.hs_nodes.specs.Graphs.{RunsPlan}
use Rattle.hs_nodes.specs.declared.graph.Graph.{Graph}
use Rattle.hs_rose.specs.declared.engine.PieceEngine.{PieceEngine}
use Rattle.hs_rose.specs.Listing.{Asked}
use Rattle.hs_rose.specs.PieceEngines.{piece_meaning}
use Rattle.hs_rose.specs.Plans.{AsksFor, IsFitPattern, plan_of}
use Rattle.hs_rose.specs.Programs.{Tables, IsProgramOf}
use Rattle.hs_compile.specs.Databases.{Compiled, IsDatabaseOf, packing_of}

-- The tables are those of the entries of the patterns, which can be run by pieces.
pub record IsProgramFor (t : Tables) (P : List Pattern) : Type 0 where
  pub entries : List Asked
  pub program : IsProgramOf t entries (map (λ x. chains_of x.tree) P)
  pub asks : AllZip AsksFor entries P
  pub fit : Each IsFitPattern P

-- So they are of some patterns, and the packing is that of the regions of these.
pub record IsPackedProgram (t : Tables) (packing : Packing) : Type 0 where
  pub patterns : List Pattern
  pub is_for : IsProgramFor t patterns
  pub packs : IsPackingFor packing (plan_of t patterns)

-- It holds of the plan of each list of patterns of which that is the program.
abbrev pub OfPlans : Tables → (Plan → Type 0) → Type 0
OfPlans t Holds = (P : List Pattern) → IsProgramFor t P → Holds (plan_of t P)

-- the graph runs those plans
abbrev pub RunsPlans : Tables → Graph PieceEngine → Type 0
RunsPlans t graph = OfPlans t (RunsPlan piece_meaning graph t.literals)

-- the database is that of each of those plans of whose regions it has the packing
abbrev pub IsDatabaseOfPlans : Tables → Compiled → Type 0
IsDatabaseOfPlans t database =
    OfPlans t (λ plan. IsPackingFor (packing_of database) plan → IsDatabaseOf database plan)
