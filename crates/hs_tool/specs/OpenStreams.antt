-- The streams by name with what the store tells of files, and the machine that they stand for.
use Rattle.std.specs.Prelude.{◌≡◌, ◌≢◌, ℕ, ◌+◌, List, Option, None, Some}
use Rattle.std.specs.BTreeMap.{get_by, btree_map_len}
use Rattle.std.specs.Ordering.{nat_cmp}
use Rattle.std.specs.Cmp.Lexicographic.{slice_cmp}
use Rattle.hs_base.specs.Told.{Pair, IsTold}
use Rattle.hs_outside.specs.Store.{Told, untold, lacks, holds}
use Rattle.hs_kept.specs.KeptRegions.{IsWellKept}
use Rattle.hs_compile.specs.Databases.{Compiled, IsDatabaseOf, digest_of}
use Rattle.hs_stream.specs.declared.stream.Stream.{Stream}
use Rattle.hs_stream.specs.Leading.{IsBehind}
use Rattle.hs_stream.specs.Streams.{IsStreamOf, region_of}
use Rattle.hs_script.specs.Actions.{Action}
use Rattle.hs_script.specs.Bases.{Basis, IsBasis, IsSavedBy, patterns_of, Stream as Known, Of, Foreign}
use Rattle.hs_script.specs.Bases.{File, Untold, Missing, Saved, Bytes}
use Rattle.hs_script.specs.Machine.{Answer, Machine}
use Rattle.hs_script.specs.Runs.{IsRun}
use Rattle.hs_tool.specs.declared.session.streams.Streams.{Streams}

-- ---- the streams by name

-- the stream of a name
abbrev pub stream_at : Streams → List ℕ → Option Stream
stream_at streams name = get_by (λ key. slice_cmp nat_cmp name key.items) streams.map

-- how many are open
abbrev pub count_of : Streams → ℕ
count_of streams = btree_map_len streams.map

-- 1 for a stream
abbrev pub has_stream : Option Stream → ℕ
has_stream None = 0
has_stream (Some stream) = 1

-- This name has another stream now, or none, and all other names have theirs.
pub record PutsStream (old new : Streams) (name : List ℕ) (stream : Option Stream) : Type 0 where
  pub here : stream_at new name ≡ stream
  pub others : (other : List ℕ) → other ≢ name → stream_at new other ≡ stream_at old other
  pub counted : count_of new + has_stream (stream_at old name) ≡ count_of old + has_stream stream

-- each of them is a stream of the database
abbrev pub AreStreamsOf : Compiled → Streams → Type 0
AreStreamsOf db streams =
    (name : List ℕ) (stream : Stream) → stream_at streams name ≡ Some stream → IsStreamOf db stream

-- ---- the machine

-- What the machine goes by is the plan and the digest of the database.
pub record RunsBasis (db : Compiled) (basis : Basis) : Type 0 where
  pub is_basis : IsBasis basis
  pub is_database : IsDatabaseOf db basis.plan
  pub digest : basis.digest ≡ digest_of db

-- The stream keeps what is kept of these bytes, which told these pairs.
pub record IsAt (basis : Basis) (h : List ℕ) (stream : Stream) : Type 0 where
  pub behind : IsBehind basis.plan h (region_of stream)
  pub told : List Pair
  pub is_told : IsTold (patterns_of basis) h told

-- A stream of the machine is the one here: that of its bytes, or the one that keeps the same.
abbrev pub Follows : Basis → Option Known → Option Stream → Type 0
Follows basis None None = Unit {0}
Follows basis None (Some stream) = ⊥
Follows basis (Some s) None = ⊥
Follows basis (Some (Of h)) (Some stream) = IsAt basis h stream
Follows basis (Some (Foreign region)) (Some stream) = (region_of stream ≡ region) × IsWellKept basis.plan region

-- What the machine is told of a name is what the store tells of it.
pub data FollowsFile (basis : Basis) : File → Told → Type 0 where
  is_untold : FollowsFile basis Untold untold
  is_missing : FollowsFile basis Missing lacks
  is_saved : {h bytes : List ℕ} → IsSavedBy basis bytes h → FollowsFile basis (Saved h) (holds bytes)
  has_bytes : {bytes : List ℕ} → FollowsFile basis (Bytes bytes) (holds bytes)

-- what the machine is told of a name at the start
abbrev pub file_of : Told → File
file_of untold = Untold
file_of lacks = Missing
file_of (holds bytes) = Bytes bytes

-- and of each name
abbrev pub files_of : (List ℕ → Told) → List ℕ → File
files_of told name = file_of (told name)

-- the open streams, and what the store tells of each name
pub record Holdings : Type 0 where
  pub streams : Streams
  pub told : List ℕ → Told

abbrev pub kept : Streams → (List ℕ → Told) → Holdings
kept streams told = record { streams = streams; told = told }

-- These are the streams and the files of the machine.
pub record Tracks (basis : Basis) (m : Machine) (now : Holdings) : Type 0 where
  pub each : (name : List ℕ) → Follows basis (m.stream name) (stream_at now.streams name)
  pub files : (name : List ℕ) → FollowsFile basis (m.file name) (now.told name)
  pub counted : m.count ≡ count_of now.streams

-- The machine goes through the actions, and these are then its streams and files.
pub record Leads (basis : Basis) (m : Machine) (now : Holdings) (actions : List Action) (answers : List Answer) : Type 0
  where
    pub after : Machine
    pub run : IsRun basis m actions answers after
    pub tracks : Tracks basis after now

-- That holds by whatever the machine may go by for the database, and for each machine whose streams and files these
-- were.
abbrev pub Performs : Compiled → Holdings → Holdings → List Action → List Answer → Type 0
Performs db old now actions answers =
    (basis : Basis) (m : Machine) → RunsBasis db basis → Tracks basis m old → Leads basis m now actions answers

-- It does over any files, which stay as they are.
abbrev pub PerformsStill : Compiled → Streams → Streams → List Action → List Answer → Type 0
PerformsStill db old now actions answers =
    (told : List ℕ → Told) → Performs db (kept old told) (kept now told) actions answers
