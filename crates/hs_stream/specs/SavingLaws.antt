-- What holds of saved streams.
use Rattle.std.specs.Prelude.{◌≡◌, ℕ, List, ◌++◌}
use Rattle.hs_base.specs.Patterns.{Pattern}
use Rattle.hs_base.specs.Regions.{Plan}
use Rattle.hs_base.specs.Told.{Pair, IsTold}
use Rattle.hs_compile.specs.Databases.{Compiled, IsDatabaseOf}
use Rattle.hs_regions.specs.KeptFaults.{IsKeptFault}
use Rattle.hs_stream.specs.declared.fault.ExpandFault.{ExpandFault}
use Rattle.hs_stream.specs.declared.fault.ExpandFault.TheVariants as fault
use Rattle.hs_stream.specs.declared.stream.Stream.{Stream}
use Rattle.hs_stream.specs.Leading.{IsBehind, IsFaultOf, IsRegionOf}
use Rattle.hs_stream.specs.Saving.{IsExpanded, IsExpandFaultOf, IsSaved}
use Rattle.hs_stream.specs.Standing.{Stands}
use Rattle.hs_stream.specs.Streams.{region_of}
use Rattle.hs_stream.specs.Writing.{joined, AreWritten, GoOnAlike}

-- What the bytes are expanded to is a stream with that region, and only want of memory refuses it.
pub record IsTaken (db : Compiled) (bytes region : List ℕ) : Type 0 where
  pub same : (stream : Stream) → IsExpanded db bytes stream → region_of stream ≡ region
  pub free : (f : ExpandFault) → IsExpandFaultOf db bytes f → f ≡ fault.Memory

-- So is whatever may be the region of a stream of the database.
abbrev pub SavedIsTaken : Type 0
SavedIsTaken =
    (db : Compiled) (bytes region : List ℕ) → IsRegionOf db region → IsSaved db bytes region → IsTaken db bytes region

-- And the region of each stream of bytes.
abbrev pub HistoriesAreTaken : Type 0
HistoriesAreTaken =
    (db : Compiled) (plan : Plan) (u bytes region : List ℕ) → IsDatabaseOf db plan →
    IsBehind plan u region → IsSaved db bytes region → IsTaken db bytes region

-- Whatever is known of a saved stream is known of what it is expanded to.
abbrev pub ExpandedStands : Type 0
ExpandedStands =
    (db : Compiled) (P : List Pattern) (u bytes : List ℕ) (saved expanded : Stream) → Stands db P u saved →
    IsSaved db bytes (region_of saved) → IsExpanded db bytes expanded → Stands db P u expanded

-- A saved stream that is expanded goes on as if it had never been saved.
abbrev pub ExpandedGoesOn : Type 0
ExpandedGoesOn =
    (db : Compiled) (plan : Plan) (u : List ℕ) (told : List Pair) → IsDatabaseOf db plan →
    IsTold plan.patterns u told →
    (saved expanded end end' : Stream) (bytes : List ℕ) (pieces pieces' : List (List ℕ)) (pairs pairs' : List Pair) →
    IsBehind plan u (region_of saved) → IsSaved db bytes (region_of saved) → IsExpanded db bytes expanded →
    joined pieces ≡ joined pieces' →
    AreWritten db saved pieces pairs end → AreWritten db expanded pieces' pairs' end' →
    GoOnAlike db plan (u ++ joined pieces) end end' pairs pairs'

-- A stream of bytes is saved as one file, however it was written.
abbrev pub HistoriesHaveOneFile : Type 0
HistoriesHaveOneFile =
    (db : Compiled) (plan : Plan) (u bytes bytes' region region' : List ℕ) →
    IsBehind plan u region → IsBehind plan u region' →
    IsSaved db bytes region → IsSaved db bytes' region' → bytes ≡ bytes'

-- The first part of what is kept that breaks its rule is the first one by the plan of the database.
abbrev pub FaultsAreOfThePlan : Type 0
FaultsAreOfThePlan =
    (db : Compiled) (plan : Plan) (region : List ℕ) (place : ℕ) → IsDatabaseOf db plan →
    IsFaultOf db region place → IsKeptFault plan region place
