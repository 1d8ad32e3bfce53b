-- What a write or an end may report of any stream of a database, that of no bytes too, which is called foreign.
use Rattle.std.specs.Prelude.{◌≡◌, ℕ, ◌+◌, ◌-◌, ◌<◌, List, length}
use Rattle.hs_base.specs.Lists.{Each}
use Rattle.hs_base.specs.Regions.{region_offset}
use Rattle.hs_base.specs.Told.{Pair}
use Rattle.hs_compile.specs.Databases.{Compiled}
use Rattle.hs_stream.specs.declared.stream.Stream.{Stream}
use Rattle.hs_stream.specs.Leading.{EndsWith, LeadsTo}
use Rattle.hs_stream.specs.Streams.{Closes, Writes, offset_of, region_of}
pub use Rattle.hs_stream.specs.Telling.{MayTell}

-- What was kept was led from the one to the other by the bytes, which reported these pairs, whatever stream that was.
pub record MayLead (db : Compiled) (old new bytes : List ℕ) (pairs : List Pair) : Type 0 where
  pub leads : LeadsTo db old new bytes pairs
  pub tells : MayTell db (region_offset old) (region_offset new) pairs

-- The end of the stream of which that is kept reported these pairs, whatever stream that was.
pub record MayEnd (db : Compiled) (kept : List ℕ) (pairs : List Pair) : Type 0 where
  pub ends : EndsWith db kept pairs
  pub tells : MayTell db (region_offset kept - 1) (region_offset kept) pairs

-- The bytes led from the one stream to the other and reported these pairs, whatever stream that was.
pub record MayWrite (db : Compiled) (old new : Stream) (bytes : List ℕ) (pairs : List Pair) : Type 0 where
  pub writes : Writes db old new bytes pairs
  pub tells : MayTell db (offset_of old) (offset_of new) pairs
  pub small : Each (λ b. b < 256) (region_of new)
  pub offset : offset_of new ≡ offset_of old + length bytes

-- The end of the stream reported these pairs, whatever stream that was.
pub record MayClose (db : Compiled) (stream : Stream) (pairs : List Pair) : Type 0 where
  pub closes : Closes db stream pairs
  pub tells : MayTell db (offset_of stream - 1) (offset_of stream) pairs
