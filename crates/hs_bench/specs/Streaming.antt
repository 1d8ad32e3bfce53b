-- What a stream over a text tells, counted.
use Rattle.std.specs.Prelude.{◌≡◌, ℕ, ◌+◌, ◌-◌, ◌^◌, List, length, min}
use Rattle.hs_base.specs.Entries.{ListedEntry}
use Rattle.hs_base.specs.Told.{Pair}
use Rattle.hs_bench.specs.declared.stream.Reports.{Reports}
use Rattle.hs_compile.specs.Answers.{IsCompiled}
use Rattle.hs_compile.specs.Databases.{Compiled}
use Rattle.hs_dbfile.specs.Files.{IsDatabaseFile}
use Rattle.hs_stream.specs.Streams.{IsFresh, Writes}
use Rattle.hs_stream.specs.declared.stream.Stream.{Stream}

-- so many as a count can tell
abbrev pub counted : ℕ → ℕ
counted n = min n (2 ^ 64 - 1)

-- one report more
abbrev pub Counts : Reports → ℕ → ℕ → Reports → Type 0
Counts before id to now = now.count ≡ counted (before.count + 1)

-- The database is that of the list in a database file.
pub record IsDatabaseIn (bytes : List ℕ) (database : Compiled) : Type 0 where
  pub entries : List ListedEntry
  pub file : IsDatabaseFile bytes entries
  pub compiled : IsCompiled entries database

-- The bytes lead from the one stream to the other, and to a count they add their reports.
pub record AddsReports (db : Compiled) (old new : Stream) (bytes : List ℕ) (before after : ℕ) : Type 0 where
  pub pairs : List Pair
  pub writes : Writes db old new bytes pairs
  pub adds : after ≡ counted (before + length pairs)

-- The count is that of the reports of the text, written to a stream of which no byte had come.
pub record IsStreamed (db : Compiled) (text : List ℕ) (count : ℕ) : Type 0 where
  pub start : Stream
  pub end : Stream
  pub fresh : IsFresh db start
  pub adds : AddsReports db start end text 0 count
