-- From what the steps of a command leave to how it ends.
use Rattle.std.proofs.Common.{◌≡◌, ℕ, ◌≤◌, List, ◌++◌, length, Option, Result, Ok, Err, subst}
use Rattle.hs_base.specs.Entries.{ListedEntry}
use Rattle.hs_outside.specs.Sink.{IsSent, Sends}
use Rattle.hs_outside.specs.Store.{Told, IsFile}
use Rattle.hs_outside.proofs.Sending.{IsSent-then, IsCutShort-after}
use Rattle.hs_lists.specs.Causes.{Cause, memory}
use Rattle.hs_lists.specs.ListKinds.{ListKind}
use Rattle.hs_lists.specs.Accepting.{HoldsList, IsFormCause, formless, unread, IsEntryCause, first, uncompiled, bad_form, bad_entry}
use Rattle.hs_lists.specs.Endings.{greatest_list, Outside, NoFault, TookNothing, HasList, StopsList, StopsEarly, CompileEnds, list_refused, no_memory}
use Rattle.hs_lists.specs.Loading.{IsLoaded, entries_of}
use Rattle.hs_lists.specs.declared.loading.Loaded.{Loaded}

-- the list that was loaded
pub has_list : (kind : ListKind) (told : Told) (loaded : Loaded) → (is : IsLoaded kind told loaded) → HasList kind told (entries_of loaded) is.patterns
has_list kind told loaded is = record { bytes = is.bytes; file = is.file; within = is.within; accepted = is.accepted }

-- no memory was found, and nothing written
pub no_memory_early : (kind : ListKind) (list : List ℕ) (before now : Outside) → TookNothing before now → NoFault before now → StopsEarly kind list before now memory
no_memory_early kind list before now quiet none = record { stops = no_memory none.store; quiet = quiet; still = none.sink }

pub compile_since : (patterns database : List ℕ) (told told' : List ℕ → Told) (stored stored' : ℕ) (out : Option (List ℕ)) (sunk : ℕ) (now : Outside) (outcome : Option Cause) → told' ≡ told → stored' ≡ stored →
    CompileEnds patterns database (record { told = told'; stored = stored'; out = out; sunk = sunk }) now outcome →
    CompileEnds patterns database (record { told = told; stored = stored; out = out; sunk = sunk }) now outcome
compile_since patterns database told told' stored stored' out sunk now outcome same_told same_stored ends =
    subst (λ n. CompileEnds patterns database (record { told = told; stored = n; out = out; sunk = sunk }) now outcome) same_stored
    (subst (λ t. CompileEnds patterns database (record { told = t; stored = stored'; out = out; sunk = sunk }) now outcome) same_told ends)

-- ---- the list

-- the file isn't of the form, or memory was wanted to read it
pub form-stops : (kind : ListKind) (name : List ℕ) (told : Told) (before now : ℕ) (bytes : List ℕ) (cause : Cause) → IsFile told bytes → length bytes ≤ greatest_list → now ≡ before → IsFormCause kind bytes cause → StopsList kind name told before now cause
form-stops kind name told before now bytes _ file within same (formless bad) = list_refused (record { bytes = bytes; file = file; within = within; refused = bad_form bad }) same
form-stops kind name told before now bytes _ file within same unread = no_memory same

-- an entry is refused, or memory was wanted to compile them
pub entry-stops : (kind : ListKind) (name : List ℕ) (told : Told) (before now : ℕ) (bytes : List ℕ) (entries : List ListedEntry) (cause : Cause) → IsFile told bytes → length bytes ≤ greatest_list → now ≡ before → HoldsList kind bytes entries → IsEntryCause entries cause → StopsList kind name told before now cause
entry-stops kind name told before now bytes entries _ file within same list (first refused) = list_refused (record { bytes = bytes; file = file; within = within; refused = bad_entry list refused }) same
entry-stops kind name told before now bytes entries _ file within same list uncompiled = no_memory same

-- ---- a text in two parts

-- the second part, behind the first
pub sends-behind : {T E : Type 0} (result : Result T E) (before between after : Option (List ℕ)) (faults later last : ℕ) (text more : List ℕ) →
    IsSent before between faults later text → Sends result between after later last more → Sends result before after faults last (text ++ more)
sends-behind (Ok done) before between after faults later last text more front second = IsSent-then front second
sends-behind (Err fault) before between after faults later last text more front second = IsCutShort-after front second
