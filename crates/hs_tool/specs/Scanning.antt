-- What the scan of a stream leaves: the stream, and the lines of its reports on their way to a sink.
use Rattle.std.specs.Prelude.{◌≡◌, ℕ, ◌+◌, ◌≤◌, List, [], length, Option, None}
use Rattle.hs_base.specs.Told.{Pair}
use Rattle.hs_outside.specs.Counts.{Rose}
use Rattle.hs_outside.specs.Store.{Told, IsMissing, IsPresent, IsLonger, IsFile, Begins}
use Rattle.hs_base.specs.Regions.{Plan}
use Rattle.hs_kept.specs.KeptRegions.{IsWellKept}
use Rattle.hs_compile.specs.Databases.{Compiled, IsDatabaseOf}
use Rattle.hs_base.specs.Offsets.{greatest_offset}
use Rattle.hs_stream.specs.declared.stream.Stream.{Stream}
use Rattle.hs_stream.specs.Foreign.{MayTell}
use Rattle.hs_stream.specs.Streams.{offset_of, region_of, Closes, Writes}
use Rattle.hs_lines.specs.Printing.{report_lines_of}
use Rattle.hs_tool.specs.declared.scan.ScanFault.{ScanFault}
use Rattle.hs_tool.specs.declared.scan.ScanFault.TheVariants.{Absent, Store, Write, Limit, Memory}

-- why a file isn't scanned to its end, with the counts of faults of the store and of the sink before and now
abbrev pub Interrupts : ScanFault → Told → ℕ → ℕ → ℕ → ℕ → Type 0
Interrupts Absent told store stored sink sunk = IsMissing told × (stored ≡ store) × (sunk ≡ sink)
Interrupts Store told store stored sink sunk = IsPresent told × Rose store stored × (sunk ≡ sink)
Interrupts Write told store stored sink sunk = IsPresent told × (stored ≡ store) × Rose sink sunk
Interrupts Limit told store stored sink sunk = IsLonger told greatest_offset × (stored ≡ store) × (sunk ≡ sink)
Interrupts Memory told store stored sink sunk = ⊥

-- The bytes were written to the stream, and these pairs reported, whatever stream that was: it stays well formed. No
-- bytes leave it as it is, and report nothing.
pub record IsWritten (db : Compiled) (old new : Stream) (bytes : List ℕ) (pairs : List Pair) : Type 0 where
  pub writes : Writes db old new bytes pairs
  pub tells : MayTell db (offset_of old) (offset_of new) pairs
  pub offset : offset_of new ≡ offset_of old + length bytes
  pub well : (plan : Plan) →
      IsDatabaseOf db plan →
      IsWellKept plan (region_of old) →
      IsWellKept plan (region_of new)
  pub idle : bytes ≡ [] → (region_of new ≡ region_of old) × (pairs ≡ [])

-- The bytes were written to the stream, which has this name, if it has one, and that holds of the lines of its reports.
pub record Scans (db : Compiled) (name : Option (List ℕ)) (old new : Stream) (bytes : List ℕ)
    (IsPassed : List ℕ → Type 0) : Type 0 where
  pub pairs : List Pair
  pub writes : IsWritten db old new bytes pairs
  pub passes : IsPassed (report_lines_of name pairs)

-- The stream was closed, and that holds of the lines of its last reports.
pub record IsClosed (db : Compiled) (stream : Stream) (IsPassed : List ℕ → Type 0) : Type 0 where
  pub pairs : List Pair
  pub ends : Closes db stream pairs
  pub passes : IsPassed (report_lines_of None pairs)

-- The whole file was scanned from the start of a stream.
pub record IsFileScanned (db : Compiled) (told : Told) (old new : Stream) (IsPassed : List ℕ → Type 0) : Type 0 where
  pub bytes : List ℕ
  pub file : IsFile told bytes
  pub within : length bytes ≤ greatest_offset
  pub length : offset_of new ≡ length bytes
  pub scanned : Scans db None old new bytes IsPassed

-- Some first bytes of the file were scanned.
pub record IsFilePartlyScanned (db : Compiled) (told : Told) (old : Stream) (IsPassed : List ℕ → Type 0) : Type 0 where
  pub bytes : List ℕ
  pub begins : Begins told bytes
  pub new : Stream
  pub scanned : Scans db None old new bytes IsPassed
