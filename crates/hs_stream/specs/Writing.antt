-- Any list of writes.
use Rattle.std.specs.Prelude.{◌≡◌, ℕ, List, [], ◌∷◌, ◌++◌}
use Rattle.hs_base.specs.Regions.{Plan}
use Rattle.hs_base.specs.Told.{Pair, IsTold}
use Rattle.hs_compile.specs.Databases.{Compiled, IsDatabaseOf}
use Rattle.hs_stream.specs.declared.stream.Stream.{Stream}
use Rattle.hs_stream.specs.Leading.{IsBehind}
use Rattle.hs_stream.specs.Streams.{region_of, IsFresh, Writes, Closes}

-- the bytes of the pieces, one after another
abbrev pub joined : List (List ℕ) → List ℕ
joined [] = []
joined (piece ∷ pieces) = piece ++ joined pieces

-- These pieces were written one after another. They led from the one stream to the other, and reported these pairs.
pub data AreWritten (db : Compiled) (start : Stream) : List (List ℕ) → List Pair → Stream → Type 0 where
  none : AreWritten db start [] [] start
  more : {pieces : List (List ℕ)} {pairs new : List Pair} {between end : Stream} (piece : List ℕ) →
      AreWritten db start pieces pairs between → Writes db between end piece new →
      AreWritten db start (pieces ++ piece ∷ []) (pairs ++ new) end

-- Any list of writes is one write of their bytes.
abbrev pub WritesJoin : Type 0
WritesJoin =
    (db : Compiled) (start end : Stream) (pieces : List (List ℕ)) (pairs : List Pair) →
    AreWritten db start pieces pairs end → Writes db start end (joined pieces) pairs

-- Two streams that were written to go on alike: the same was reported, both have the region of these bytes, and an end
-- reports the same.
pub record GoOnAlike (db : Compiled) (plan : Plan) (w : List ℕ) (end end' : Stream) (pairs pairs' : List Pair) : Type 0
  where
    pub reports : pairs ≡ pairs'
    pub behind : IsBehind plan w (region_of end)
    pub region : region_of end' ≡ region_of end
    pub lasts : (last last' : List Pair) → Closes db end last → Closes db end' last' → last ≡ last'

-- Two streams behind the same bytes, to which the same bytes are written in whatever pieces, go on alike.
abbrev pub CutsTellNothing : Type 0
CutsTellNothing =
    (db : Compiled) (plan : Plan) (u : List ℕ) (told : List Pair) → IsDatabaseOf db plan →
    IsTold plan.patterns u told →
    (start start' end end' : Stream) (pieces pieces' : List (List ℕ)) (pairs pairs' : List Pair) →
    IsBehind plan u (region_of start) → IsBehind plan u (region_of start') → joined pieces ≡ joined pieces' →
    AreWritten db start pieces pairs end → AreWritten db start' pieces' pairs' end' →
    GoOnAlike db plan (u ++ joined pieces) end end' pairs pairs'

-- So do two streams of which no byte has come, one that was opened and one that was reset, say.
abbrev pub StartsAreAlike : Type 0
StartsAreAlike =
    (db : Compiled) (plan : Plan) → IsDatabaseOf db plan →
    (start start' end end' : Stream) (pieces pieces' : List (List ℕ)) (pairs pairs' : List Pair) →
    IsFresh db start → IsFresh db start' → joined pieces ≡ joined pieces' →
    AreWritten db start pieces pairs end → AreWritten db start' pieces' pairs' end' →
    GoOnAlike db plan (joined pieces) end end' pairs pairs'
