-- How the commands end that are about a list alone.
use Rattle.std.specs.Prelude.{◌≡◌, ◌↔◌, ℕ, ◌+◌, ◌≤◌, List, [], ◌++◌, length, map, Option, Some, None}
use Rattle.hs_base.specs.Lists.{IsMember}
use Rattle.hs_base.specs.Entries.{ListedEntry}
use Rattle.hs_base.specs.Patterns.{Pattern}
use Rattle.hs_base.specs.Settling.{AreRising}
use Rattle.hs_outside.specs.Counts.{Rose}
use Rattle.hs_outside.specs.Sink.{Took, TookPrefix}
use Rattle.hs_outside.specs.Store.{Told, IsFile, IsLonger, IsMissing, PutsOrHides, Spoils}
use Rattle.hs_text.specs.AnswerLines.{accepted_line, compiled_line, info_lines, size_lines}
use Rattle.hs_dbfile.specs.Files.{IsDatabaseFile}
use Rattle.hs_compile.specs.Lists.{AreAcceptedAs}
use Rattle.hs_compile.specs.Sizes.{IsKeptSizeOf}
use Rattle.hs_lists.specs.ListKinds.{ListKind, pattern_file}
use Rattle.hs_lists.specs.Accepting.{IsAccepted, IsRefused}
use Rattle.hs_lists.specs.Causes.{Cause, write, store, absent, limit, memory}

-- the greatest length of a pattern file or a database file, 2^31 bytes
abbrev pub greatest_list : ℕ
greatest_list = 2147483648

-- the outside at one moment: what the store tells of each name, what the sink took, and their counts of faults
pub record Outside : Type 0 where
  pub told : List ℕ → Told
  pub stored : ℕ
  pub out : Option (List ℕ)
  pub sunk : ℕ

-- the outside with these parts
abbrev pub outside_of : (List ℕ → Told) → ℕ → Option (List ℕ) → ℕ → Outside
outside_of told stored out sunk = record { told = told; stored = stored; out = out; sunk = sunk }

-- no call on the store or the sink failed
pub record NoFault (before now : Outside) : Type 0 where
  pub store : now.stored ≡ before.stored
  pub sink : now.sunk ≡ before.sunk

-- the sink took nothing
abbrev pub TookNothing : Outside → Outside → Type 0
TookNothing before now = Took before.out now.out []

-- ---- the list of a command

-- The file of the list is there, not too long, and accepted as these patterns.
pub record HasList (kind : ListKind) (told : Told) (entries : List ListedEntry) (P : List Pattern) : Type 0 where
  pub bytes : List ℕ
  pub file : IsFile told bytes
  pub within : length bytes ≤ greatest_list
  pub accepted : IsAccepted kind bytes entries P

-- The file of the list is there, not too long, and refused.
pub record HasRefusedList (kind : ListKind) (told : Told) (cause : Cause) : Type 0 where
  pub bytes : List ℕ
  pub file : IsFile told bytes
  pub within : length bytes ≤ greatest_list
  pub refused : IsRefused kind bytes cause

-- Why a list isn't loaded from the file of this name, with the store's count of faults before and now.
pub data StopsList (kind : ListKind) (name : List ℕ) (told : Told) (before now : ℕ) : Cause → Type 0 where
  no_list : IsMissing told → now ≡ before → StopsList kind name told before now (absent name)
  list_failed : Rose before now → StopsList kind name told before now store
  long_list : IsLonger told greatest_list → now ≡ before → StopsList kind name told before now limit
  list_refused : {cause : Cause} →
      HasRefusedList kind told cause →
      now ≡ before →
      StopsList kind name told before now cause
  no_memory : now ≡ before → StopsList kind name told before now memory

-- The list isn't loaded, and nothing is written.
pub record StopsEarly (kind : ListKind) (list : List ℕ) (before now : Outside) (cause : Cause) : Type 0 where
  pub stops : StopsList kind list (before.told list) before.stored now.stored cause
  pub quiet : TookNothing before now
  pub still : now.sunk ≡ before.sunk

-- How a command may end that writes a text on the list.
pub data TellEnds (IsText : List ListedEntry → List ℕ → Type 0) (kind : ListKind) (list : List ℕ)
    (before now : Outside) : Option Cause → Type 0 where
  done : (entries : List ListedEntry) (P : List Pattern) (text : List ℕ) →
      HasList kind (before.told list) entries P →
      IsText entries text →
      Took before.out now.out text →
      NoFault before now →
      TellEnds IsText kind list before now None
  stopped : (cause : Cause) →
      StopsEarly kind list before now cause →
      TellEnds IsText kind list before now (Some cause)
  sink_failed : (entries : List ListedEntry) (P : List Pattern) (text : List ℕ) →
      HasList kind (before.told list) entries P →
      IsText entries text →
      TookPrefix before.out now.out text →
      Rose before.sunk now.sunk →
      TellEnds IsText kind list before now (Some write)

-- that the list is accepted, with how many entries it has
abbrev pub IsAcceptedText : List ListedEntry → List ℕ → Type 0
IsAcceptedText entries text = text ≡ accepted_line (length entries)

-- what a database holds: how many entries, how many identifiers, each counted once, and how many bytes are kept of a
-- stream, and those of its state file
pub record IsInfoText (entries : List ListedEntry) (text : List ℕ) : Type 0 where
  pub identifiers : List ℕ
  pub once : AreRising identifiers
  pub same : (id : ℕ) → IsMember id identifiers ↔ IsMember id (map (λ entry. entry.id) entries)
  pub patterns : List Pattern
  pub accepted : AreAcceptedAs entries patterns
  pub size : ℕ
  pub is_size : IsKeptSizeOf patterns size
  pub whole : text ≡ info_lines (length entries) (length identifiers) ++ size_lines size (size + 42)

-- How `compile PATTERNS DB` may end.
pub data CompileEnds (patterns database : List ℕ) (before now : Outside) : Option Cause → Type 0 where
  done : (entries : List ListedEntry) (P : List Pattern) (bytes : List ℕ) →
      HasList pattern_file (before.told patterns) entries P →
      IsDatabaseFile bytes entries →
      PutsOrHides before.told now.told database bytes →
      Took before.out now.out (compiled_line (length entries) (length bytes)) →
      NoFault before now →
      CompileEnds patterns database before now None
  stopped : (cause : Cause) →
      StopsEarly pattern_file patterns before now cause →
      now.told ≡ before.told →
      CompileEnds patterns database before now (Some cause)
  put_failed : (entries : List ListedEntry) (P : List Pattern) →
      HasList pattern_file (before.told patterns) entries P →
      Spoils before.told now.told database →
      TookNothing before now →
      Rose before.stored now.stored →
      CompileEnds patterns database before now (Some store)
  sink_failed : (entries : List ListedEntry) (P : List Pattern) (bytes : List ℕ) →
      HasList pattern_file (before.told patterns) entries P →
      IsDatabaseFile bytes entries →
      PutsOrHides before.told now.told database bytes →
      TookPrefix before.out now.out (compiled_line (length entries) (length bytes)) →
      Rose before.sunk now.sunk →
      CompileEnds patterns database before now (Some write)
