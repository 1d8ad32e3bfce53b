-- The streams of a database.
use Rattle.std.specs.Prelude.{◌≡◌, ◌↔◌, ℕ, ◌<◌, List, []}
use Rattle.hs_base.specs.Lists.{Each}
use Rattle.hs_base.specs.Regions.{Plan, region_offset}
use Rattle.hs_base.specs.Told.{Pair}
use Rattle.hs_compile.specs.Databases.{Compiled, IsDatabaseOf, digest_of as database_digest}
use Rattle.hs_kept.specs.KeptRegions.{IsWellKept}
use Rattle.hs_stream.specs.declared.stream.Stream.{Stream}
use Rattle.hs_stream.specs.Leading.{IsBehind, IsRegionOf, LeadsTo, EndsWith}

-- what is kept of its bytes
abbrev pub region_of : Stream → List ℕ
region_of stream = stream.region.items

-- the digest of its database
abbrev pub digest_of : Stream → List ℕ
digest_of stream = stream.digest

-- how many bytes have come
abbrev pub offset_of : Stream → ℕ
offset_of stream = region_offset (region_of stream)

-- The stream is one of the database: it has the digest, and what is kept of it is well formed.
pub record IsStreamOf (db : Compiled) (stream : Stream) : Type 0 where
  pub digest : digest_of stream ≡ database_digest db
  pub region : IsRegionOf db (region_of stream)

-- That is so just where that is well kept for the plan of the database.
abbrev pub StreamsAreWellFormed : Type 0
StreamsAreWellFormed =
    (db : Compiled) (plan : Plan) (stream : Stream) →
    IsDatabaseOf db plan →
    Each (λ b. b < 256) (region_of stream) →
    IsStreamOf db stream ↔ ((digest_of stream ≡ database_digest db) × IsWellKept plan (region_of stream))

-- what is kept of it is that of the empty stream
abbrev pub IsFresh : Compiled → Stream → Type 0
IsFresh db stream = (plan : Plan) → IsDatabaseOf db plan → IsBehind plan [] (region_of stream)

-- the bytes lead from the one to the other, and report these pairs
abbrev pub Writes : Compiled → Stream → Stream → List ℕ → List Pair → Type 0
Writes db old new bytes pairs = LeadsTo db (region_of old) (region_of new) bytes pairs

-- the pairs are the last reports of each stream that leads to its region
abbrev pub Closes : Compiled → Stream → List Pair → Type 0
Closes db stream pairs = EndsWith db (region_of stream) pairs
