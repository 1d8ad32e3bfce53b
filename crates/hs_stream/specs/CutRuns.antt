-- Runs: a stream of a database from its open to its close, with a tally of what it reported.
use Rattle.std.specs.Prelude.{◌≡◌, ℕ, ◌%◌, Bool, false, ◌==◌, List, ◌++◌, []}
use Rattle.hs_base.specs.Patterns.{Pattern}
use Rattle.hs_base.specs.Told.{Pair, IsNew, IsLast}
use Rattle.hs_compile.specs.Databases.{Compiled}
use Rattle.hs_stream.specs.Saving.{IsSaved, IsExpanded}
use Rattle.hs_stream.specs.Streams.{IsFresh, Writes, region_of}
use Rattle.hs_stream.specs.declared.stream.Stream.{Stream}
use Rattle.hs_stream.specs.declared.tally.Tally.{Tally}
use Rattle.hs_stream.specs.declared.runs.Cutting.{Cutting}
use Rattle.hs_stream.specs.declared.runs.Cutting.TheVariants.{Even, Drawn}
use Rattle.hs_stream.specs.Drawing.{piece_length, stepped}
use Rattle.hs_stream.specs.Tallies.{tally_of, with_pairs}

-- the length of the next piece, where there are as many bytes
abbrev pub next_length : Cutting → ℕ
next_length Even = 97
next_length (Drawn generator) = piece_length generator.number

-- how the stream is cut behind it
abbrev pub behind_length : Cutting → Cutting
behind_length Even = Even
behind_length (Drawn generator) = Drawn (record { number = stepped generator.number })

-- the stream is saved behind so many pieces
abbrev pub saves_behind : Cutting → (pieces : ℕ) → Bool
saves_behind Even pieces = false
saves_behind (Drawn generator) pieces = pieces % 16 == 0

-- Some pairs were reported, of which that holds, and they were added to the tally.
pub record IsAdded (before now : Tally) (Holds : List Pair → Type 0) : Type 0 where
  pub pairs : List Pair
  pub holds : Holds pairs
  pub added : now ≡ with_pairs before pairs

-- Some of the bytes were written to a stream that was opened, in some pieces, which led to this stream; the tally is
-- that of what they reported.
pub record IsCutRun (db : Compiled) (bytes : List ℕ) (stream : Stream) (tally : Tally) : Type 0 where
  pub start : Stream
  pub fresh : IsFresh db start
  pub pairs : List Pair
  pub writes : Writes db start stream bytes pairs
  pub counted : tally ≡ tally_of pairs

-- The stream was given away for a saved one, and this one is what that was expanded to.
pub record IsSwapped (db : Compiled) (before now : Stream) : Type 0 where
  pub bytes : List ℕ
  pub saved : IsSaved db bytes (region_of before)
  pub expanded : IsExpanded db bytes now

-- The tally is that of the new reports of the whole stream, followed by its last ones.
pub record IsSummary (P : List Pattern) (w : List ℕ) (tally : Tally) : Type 0 where
  pub new : List Pair
  pub last : List Pair
  pub by_bytes : IsNew P [] w new
  pub by_end : IsLast P w last
  pub counted : tally ≡ tally_of (new ++ last)
