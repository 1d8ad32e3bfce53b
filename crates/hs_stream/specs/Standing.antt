-- What a caller knows of a stream from call to call.
use Rattle.std.specs.Prelude.{◌≡◌, ℕ, List, [], ◌++◌}
use Rattle.hs_base.specs.Patterns.{Pattern}
use Rattle.hs_base.specs.Regions.{Plan}
use Rattle.hs_base.specs.Told.{Pair, IsTold, IsNew, IsLast}
use Rattle.hs_compile.specs.Databases.{Compiled, IsDatabaseOf}
use Rattle.hs_stream.specs.declared.stream.Stream.{Stream}
use Rattle.hs_stream.specs.Leading.{IsBehind}
use Rattle.hs_stream.specs.Streams.{region_of, IsFresh, Writes, Closes}

-- The database is that of a plan of the patterns.
pub record RunsPatterns (db : Compiled) (P : List Pattern) : Type 0 where
  pub plan : Plan
  pub patterns : plan.patterns ≡ P
  pub is_database : IsDatabaseOf db plan

-- The database runs the patterns, and the stream has the region of the bytes u since it was opened or reset.
pub record Stands (db : Compiled) (P : List Pattern) (u : List ℕ) (stream : Stream) : Type 0 where
  pub runs : RunsPatterns db P
  pub behind : IsBehind runs.plan u (region_of stream)
  pub told : List Pair
  pub is_told : IsTold P u told

-- The stream stands behind the bytes v too, and the pairs are the new reports of v after u.
pub record Moves (db : Compiled) (P : List Pattern) (u v : List ℕ) (new : Stream) (pairs : List Pair) : Type 0 where
  pub stands : Stands db P (u ++ v) new
  pub reports : IsNew P u v pairs

-- A stream that was opened, or reset, stands behind no byte.
abbrev pub FreshStands : Type 0
FreshStands = (db : Compiled) (P : List Pattern) (stream : Stream) → RunsPatterns db P → IsFresh db stream →
    Stands db P [] stream

-- A write moves it on, and reports what its bytes newly decide.
abbrev pub WriteMoves : Type 0
WriteMoves =
    (db : Compiled) (P : List Pattern) (u v : List ℕ) (old new : Stream) (pairs : List Pair) →
    Stands db P u old → Writes db old new v pairs → Moves db P u v new pairs

-- A close, or a reset, reports what only the end decides.
abbrev pub EndIsLast : Type 0
EndIsLast =
    (db : Compiled) (P : List Pattern) (u : List ℕ) (stream : Stream) (pairs : List Pair) →
    Stands db P u stream → Closes db stream pairs → IsLast P u pairs
