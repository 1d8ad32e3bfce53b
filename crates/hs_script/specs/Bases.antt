-- What a machine of streams goes by, and what is known of its streams and files.
use Rattle.std.specs.Prelude.{◌≡◌, ◌≢◌, ℕ, ◌+◌, ◌<◌, ◌≤◌, List, length, Option, None, Some}
use Rattle.hs_base.specs.Lists.{Each}
use Rattle.hs_base.specs.Patterns.{Pattern}
use Rattle.hs_base.specs.Regions.{Plan, IsPlan, region_offset}
use Rattle.hs_base.specs.Told.{Pair, IsTold}
use Rattle.hs_kept.specs.KeptRegions.{IsKeptRegion, IsKeptSize, IsWellKept}
use Rattle.hs_dbfile.specs.States.{State, HasForm, HasVersion, IsOfOther, IsStateFile}
use Rattle.hs_text.specs.declared.reply_lines.Word.{Word}
use Rattle.hs_text.specs.declared.reply_lines.Word.TheVariants as word

-- The plan of the regions of a list, how many bytes are kept of one, and the list's digest, and for each file the bytes
-- of the stream that it is taken for, if for any. What is kept doesn't tell which stream it is of, and several streams
-- may have the same.
pub record Basis : Type 0 where
  pub plan : Plan
  pub size : ℕ
  pub digest : List ℕ
  pub origin : List ℕ → Option (List ℕ)

-- the patterns of the list
abbrev pub patterns_of : Basis → List Pattern
patterns_of basis = basis.plan.patterns

-- A stream: that of the bytes that it took since it was opened or reset; or a foreign one, of which what is kept is all
-- that is known.
pub data Stream : Type 0 where
  Of : List ℕ → Stream
  Foreign : List ℕ → Stream

-- how many bytes it took
abbrev pub offset_of : Stream → ℕ
offset_of (Of h) = length h
offset_of (Foreign region) = region_offset region

-- What is told of the name of a file: nothing; that there is none; that the stream of these bytes was saved there; or
-- its bytes.
pub data File : Type 0 where
  Untold : File
  Missing : File
  Saved : List ℕ → File
  Bytes : List ℕ → File

-- how many bytes a state file has at most
abbrev pub most_state : ℕ
most_state = 16777258

-- how many bytes a state file of the list has
abbrev pub state_size : Basis → ℕ
state_size basis = basis.size + 42

-- The bytes are the state file of what is kept of this stream, and these pairs are what it told.
pub record IsSavedBy (basis : Basis) (file h : List ℕ) : Type 0 where
  pub bytes : Each (λ b. b < 256) h
  pub told : List Pair
  pub is_told : IsTold (patterns_of basis) h told
  pub region : List ℕ
  pub saved : IsStateFile file basis.digest region
  pub is_region : IsKeptRegion basis.plan h region

-- Of the plan's regions so many bytes are kept, and each file that is taken for that of a stream is its state file.
pub record IsBasis (basis : Basis) : Type 0 where
  pub plan : IsPlan basis.plan
  pub size : IsKeptSize basis.plan basis.size
  pub origins : (file h : List ℕ) → basis.origin file ≡ Some h → IsSavedBy basis file h

-- The bytes are a state file of the list with this region, which is well formed.
pub record IsAcceptedFile (basis : Basis) (bytes region : List ℕ) : Type 0 where
  pub short : length bytes ≤ most_state
  pub file : IsStateFile bytes basis.digest region
  pub well : IsWellKept basis.plan region

-- The bytes are refused by this word: the form comes first, then the version, the digest, and the region.
pub data RefusesBytes (basis : Basis) (bytes : List ℕ) : Word → Type 0 where
  bad_length :
      most_state < length bytes →
      RefusesBytes basis bytes word.Form
  bad_form :
      ((state : State) → HasForm bytes state → ⊥) →
      RefusesBytes basis bytes word.Form
  other_version : (number : ℕ) →
      length bytes ≤ most_state →
      HasVersion bytes number →
      RefusesBytes basis bytes word.Version
  other_digest :
      length bytes ≤ most_state →
      IsOfOther bytes basis.digest →
      RefusesBytes basis bytes word.Database
  bad_region : (region : List ℕ) →
      length bytes ≤ most_state →
      IsStateFile bytes basis.digest region →
      (IsWellKept basis.plan region → ⊥) →
      RefusesBytes basis bytes word.Form

-- no stream is made of the file, by this word
pub data Refuses (basis : Basis) : File → Word → Type 0 where
  no_file : Refuses basis Missing word.Absent
  bad_bytes : {bytes : List ℕ} {w : Word} → RefusesBytes basis bytes w → Refuses basis (Bytes bytes) w

-- This stream is made of the file.
pub data Gives (basis : Basis) : File → Stream → Type 0 where
  gives_saved : {h : List ℕ} → Gives basis (Saved h) (Of h)
  gives_traced : {bytes region h : List ℕ} →
      basis.origin bytes ≡ Some h →
      IsAcceptedFile basis bytes region →
      IsKeptRegion basis.plan h region →
      Gives basis (Bytes bytes) (Of h)
  gives_foreign : {bytes region : List ℕ} →
      basis.origin bytes ≡ None →
      IsAcceptedFile basis bytes region →
      Gives basis (Bytes bytes) (Foreign region)

-- The stream is saved by this file.
pub data Keeps (basis : Basis) : Stream → File → Type 0 where
  keeps_history : {h : List ℕ} → Keeps basis (Of h) (Saved h)
  keeps_region : {region bytes : List ℕ} →
      IsStateFile bytes basis.digest region → Keeps basis (Foreign region) (Bytes bytes)

-- What is told of a name in whose file a stream was saved. Of a store that didn't tell of it, it isn't told.
pub data Puts (basis : Basis) (stream : Stream) : File → File → Type 0 where
  puts_untold : Puts basis stream Untold Untold
  puts_told : {before after : File} → before ≢ Untold → Keeps basis stream after → Puts basis stream before after

-- A store that tells of a file shows what it tells, and one that doesn't may show anything.
pub data Shows : File → File → Type 0 where
  as_told : {file : File} → Shows file file
  anything : {file : File} → Shows Untold file
