-- Saved streams: what bytes they are, and why bytes give no stream.
use Rattle.std.specs.Prelude.{◌≡◌, ◌≢◌, ℕ, ◌+◌, List, length}
use Rattle.hs_compile.specs.Databases.{Compiled, digest_of as database_digest, packing_of}
use Rattle.hs_dbfile.specs.States.{IsStateFile, IsStatePlace, HasVersion, IsOfOther}
use Rattle.hs_dbfile.specs.declared.state.StateFault.{StateFault}
use Rattle.hs_dbfile.specs.declared.state.StateFault.TheVariants as state
use Rattle.hs_kept.specs.Packing.{packed_size}
use Rattle.hs_stream.specs.declared.fault.ExpandFault.{ExpandFault}
use Rattle.hs_stream.specs.declared.fault.ExpandFault.TheVariants as fault
use Rattle.hs_stream.specs.declared.stream.Stream.{Stream}
use Rattle.hs_stream.specs.Leading.{IsFaultOf}
use Rattle.hs_stream.specs.Streams.{region_of, IsStreamOf}

-- The bytes are the state file of a region of the database's list.
abbrev pub IsSaved : Compiled → (bytes region : List ℕ) → Type 0
IsSaved db bytes region = IsStateFile bytes (database_digest db) region

-- The stream is one of the database, and its region is the one in the file.
pub record IsExpanded (db : Compiled) (bytes : List ℕ) (stream : Stream) : Type 0 where
  pub fits : IsStreamOf db stream
  pub saved : IsSaved db bytes (region_of stream)

-- The bytes have no form of a saved stream of the database from that place on: they haven't the form of a state file
-- and stop being one there; or the length in the file, which stands there, isn't that of what the database keeps;
-- or the first part of this that breaks its rule begins there.
pub data IsFormFault (db : Compiled) (bytes : List ℕ) (at : ℕ) : Type 0 where
  outer : IsStatePlace bytes at → IsFormFault db bytes at
  size : (region : List ℕ) →
      IsSaved db bytes region →
      length region ≢ packed_size (packing_of db) →
      at ≡ 38 →
      IsFormFault db bytes at
  field : (region : List ℕ) (place : ℕ) →
      IsSaved db bytes region →
      length region ≡ packed_size (packing_of db) →
      IsFaultOf db region place →
      at ≡ 42 + place →
      IsFormFault db bytes at

-- Why bytes give no stream of the database.
abbrev pub IsExpandFaultOf : Compiled → (bytes : List ℕ) → ExpandFault → Type 0
IsExpandFaultOf db bytes (fault.Form at) = IsFormFault db bytes at
IsExpandFaultOf db bytes (fault.Version version) = HasVersion bytes version
IsExpandFaultOf db bytes fault.OtherDatabase = IsOfOther bytes (database_digest db)
IsExpandFaultOf db bytes fault.Memory = Unit {0}

-- what a fault of a state file is of a saved stream
abbrev pub told_as : StateFault → ExpandFault
told_as (state.Form at) = fault.Form at
told_as (state.Version version) = fault.Version version
told_as state.OtherDatabase = fault.OtherDatabase
