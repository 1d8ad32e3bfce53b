-- The answers of the program: each with what it says of the store, the sink and the files.
use Rattle.std.specs.Prelude.{◌≡◌, ◌≢◌, ℕ, ◌<◌, ◌≤◌, ◌⊎◌, List, [], ◌∷◌, length, Option, Some, None}
use Rattle.hs_base.specs.Lists.{OneOf}
use Rattle.hs_base.specs.declared.entry.ExprId.{ExprId}
use Rattle.hs_base.specs.declared.refusal.Refusal.{Refusal}
use Rattle.hs_base.specs.Entries.{ListedEntry}
use Rattle.hs_base.specs.Patterns.{Pattern}
use Rattle.hs_base.specs.Told.{Pair, IsNew}
use Rattle.hs_base.specs.MatchText.{report_lines, IsMatchText}
use Rattle.hs_outside.specs.Counts.{Rose}
use Rattle.hs_outside.specs.Source.{IsAtEnd}
use Rattle.hs_outside.specs.Sink.{Took, TookPrefix}
use Rattle.hs_outside.specs.Store.{Told, untold, lacks, holds, Begins, IsFile, IsLonger, IsMissing}
use Rattle.hs_outside.specs.Store.{KeepsOthers, TellsNothing}
use Rattle.hs_text.specs.declared.reply_lines.ScriptFault.{ScriptFault}
use Rattle.hs_request.specs.Requests.{Request, match_file, check_list, compile_list, tell_database, scan_file}
use Rattle.hs_request.specs.Requests.{run_script, soak}
use Rattle.hs_script.specs.Actions.{Action}
use Rattle.hs_script.specs.Scripts.{IsScript}
use Rattle.hs_reader.specs.Reading.{most_script}
use Rattle.hs_lists.specs.ListKinds.{ListKind, pattern_file, database_file}
use Rattle.hs_tool.specs.Commands.{list_kind, list_name, Scanned, no_bytes}
use Rattle.hs_tool.specs.Commands.{file_named, script_of_input, drawn_bytes, scanned_by, IsStream, NamesList}
use Rattle.hs_lists.specs.Endings.{greatest_list, Outside, NoFault, TookNothing, HasList, StopsEarly, TellEnds}
use Rattle.hs_lists.specs.Endings.{CompileEnds, IsAcceptedText, IsInfoText}
use Rattle.hs_lists.specs.Accepting.{IsAccepted, IsRefused}
use Rattle.hs_base.specs.Offsets.{greatest_offset}
use Rattle.hs_lists.specs.Causes.{Cause, usage, refused, read, write, store, absent, limit, script, memory, status_of}
use Rattle.hs_lists.specs.Causes.{fault_line}
use Rattle.hs_base.specs.Regions.{Plan}
use Rattle.hs_kept.specs.KeptRegions.{IsKeptSize}
use Rattle.hs_compile.specs.Lists.{AreAcceptedAs, IsFirstRefusal}
use Rattle.hs_compile.specs.Sizes.{IsPlanOf}
use Rattle.hs_stream.specs.Drawing.{drawn_entries}
use Rattle.hs_tool.specs.SoakEndings.{SoakEnds, IsSoakText}
use Rattle.hs_tool.specs.SavedFiles.{KeepsBut, MaySave}
use Rattle.hs_tool.specs.Streaming.{Setting, ByEach, IsTextOver, HasServed, HasAnswered, HasStopped, HasBegunAnswers}

-- the input at one moment: the bytes that the source has left, where it tells them, and its count of faults
pub record Input : Type 0 where
  pub left : Option (List ℕ)
  pub faults : ℕ

-- ---- the endings of the commands

-- The sink took the text of the match of the whole file under the list.
pub record HasWritten (told : Told) (P : List Pattern) (before now : Option (List ℕ)) : Type 0 where
  pub bytes : List ℕ
  pub file : IsFile told bytes
  pub within : length bytes ≤ greatest_offset
  pub text : List ℕ
  pub match : IsMatchText P bytes text
  pub taken : Took before now text

-- The sink took a beginning of the lines of the reports that some first bytes of the file decide under the list, or of
-- the text of the match of the whole file. Where the file isn't told, these are any bytes.
pub data HasBegun (told : Told) (P : List Pattern) (before now : Option (List ℕ)) : Type 0 where
  in_reports : (bytes : List ℕ) (reports : List Pair) →
      Begins told bytes →
      IsNew P [] bytes reports →
      TookPrefix before now (report_lines reports) →
      HasBegun told P before now
  in_text : (bytes text : List ℕ) →
      IsFile told bytes →
      IsMatchText P bytes text →
      TookPrefix before now text →
      HasBegun told P before now

-- How a command may end that scans the file with the list: done, or by a cause.
pub data ScanEnds (kind : ListKind) (list file : List ℕ) (before now : Outside) : Option Cause → Type 0 where
  done : (entries : List ListedEntry) (P : List Pattern) →
      HasList kind (before.told list) entries P →
      HasWritten (before.told file) P before.out now.out →
      NoFault before now →
      ScanEnds kind list file before now None
  stopped : (cause : Cause) →
      StopsEarly kind list before now cause →
      ScanEnds kind list file before now (Some cause)
  no_file : (entries : List ListedEntry) (P : List Pattern) →
      HasList kind (before.told list) entries P →
      IsMissing (before.told file) →
      HasBegun (before.told file) P before.out now.out →
      NoFault before now →
      ScanEnds kind list file before now (Some (absent file))
  file_failed : (entries : List ListedEntry) (P : List Pattern) →
      HasList kind (before.told list) entries P →
      HasBegun (before.told file) P before.out now.out →
      Rose before.stored now.stored →
      ScanEnds kind list file before now (Some store)
  long_file : (entries : List ListedEntry) (P : List Pattern) →
      HasList kind (before.told list) entries P →
      IsLonger (before.told file) greatest_offset →
      HasBegun (before.told file) P before.out now.out →
      NoFault before now →
      ScanEnds kind list file before now (Some limit)
  sink_failed : (entries : List ListedEntry) (P : List Pattern) →
      HasList kind (before.told list) entries P →
      HasBegun (before.told file) P before.out now.out →
      Rose before.sunk now.sunk →
      ScanEnds kind list file before now (Some write)

-- The list of the database file is accepted, and it has a plan, of whose regions so many bytes are kept.
pub record HasDatabase (told : Told) (entries : List ListedEntry) (P : List Pattern) : Type 0 where
  pub list : HasList database_file told entries P
  pub plan : Plan
  pub is_plan : IsPlanOf P plan
  pub size : ℕ
  pub kept : IsKeptSize plan size

-- what is said of the script of a command
abbrev pub setting : List ListedEntry → List Pattern → Outside → Outside → Input → Input → Setting
setting entries P before now input inputs = record {
  entries = entries;
  patterns = P;
  told = before.told;
  tells = now.told;
  left = input.left;
  lefts = inputs.left;
}

-- How `stream DB` may end. Where the script has a fault, its line is the last of the text.
pub data StreamEnds (database : List ℕ) (before now : Outside) (input inputs : Input) : Option Cause → Type 0 where
  done : (entries : List ListedEntry) (P : List Pattern) →
      HasDatabase (before.told database) entries P →
      HasServed (setting entries P before now input inputs) None before.out now.out →
      IsAtEnd inputs.left →
      NoFault before now →
      inputs.faults ≡ input.faults →
      StreamEnds database before now input inputs None
  faulty : (entries : List ListedEntry) (P : List Pattern) (fault : ScriptFault) →
      HasDatabase (before.told database) entries P →
      HasServed (setting entries P before now input inputs) (Some fault) before.out now.out →
      NoFault before now →
      inputs.faults ≡ input.faults →
      StreamEnds database before now input inputs (Some (script fault))
  stopped : (cause : Cause) →
      StopsEarly database_file database before now cause →
      inputs ≡ input →
      now.told ≡ before.told →
      StreamEnds database before now input inputs (Some cause)
  source_failed : (entries : List ListedEntry) (P : List Pattern) (bytes : List ℕ) →
      HasDatabase (before.told database) entries P →
      HasAnswered (setting entries P before now input inputs) bytes before.out now.out →
      NoFault before now →
      Rose input.faults inputs.faults →
      StreamEnds database before now input inputs (Some read)
  long_script : (entries : List ListedEntry) (P : List Pattern) (bytes : List ℕ) →
      HasDatabase (before.told database) entries P →
      HasAnswered (setting entries P before now input inputs) bytes before.out now.out →
      most_script ≤ length bytes →
      NoFault before now →
      inputs.faults ≡ input.faults →
      StreamEnds database before now input inputs (Some limit)
  -- at a save or an expansion
  store_failed : (entries : List ListedEntry) (P : List Pattern) →
      HasDatabase (before.told database) entries P →
      HasStopped (setting entries P before now input inputs) before.out now.out →
      Rose before.stored now.stored →
      now.sunk ≡ before.sunk →
      inputs.faults ≡ input.faults →
      StreamEnds database before now input inputs (Some store)
  sink_failed : (entries : List ListedEntry) (P : List Pattern) →
      HasDatabase (before.told database) entries P →
      HasBegunAnswers (setting entries P before now input inputs) before.out now.out →
      Rose before.sunk now.sunk →
      StreamEnds database before now input inputs (Some write)

-- How the program may end where the words are no command: it says so, or memory was wanted to read them.
pub record UsageEnds (before now : Outside) (outcome : Option Cause) : Type 0 where
  pub cause : (outcome ≡ Some usage) ⊎ (outcome ≡ Some memory)
  pub quiet : TookNothing before now
  pub none : NoFault before now

-- How the program may end on a command line: one case for each command.
abbrev pub Ends : Option Request → Outside → Outside → Input → Input → Option Cause → Type 0
Ends None before now input inputs outcome = UsageEnds before now outcome
Ends (Some (match_file patterns file)) before now input inputs outcome =
    ScanEnds pattern_file patterns file before now outcome
Ends (Some (check_list patterns)) before now input inputs outcome =
    TellEnds IsAcceptedText pattern_file patterns before now outcome
Ends (Some (compile_list patterns database)) before now input inputs outcome =
    CompileEnds patterns database before now outcome
Ends (Some (tell_database database)) before now input inputs outcome =
    TellEnds IsInfoText database_file database before now outcome
Ends (Some (scan_file database file)) before now input inputs outcome =
    ScanEnds database_file database file before now outcome
Ends (Some (run_script database)) before now input inputs outcome = StreamEnds database before now input inputs outcome
Ends (Some (soak seed count)) before now input inputs outcome = SoakEnds seed count before now outcome

-- The files are as they were, but for the one that `compile` puts, and those that a script saves into; with a put a
-- store may stop telling of any.
abbrev pub KeepsFiles : Option Request → (left : Option (List ℕ)) → (before now : List ℕ → Told) → Type 0
KeepsFiles (Some (compile_list patterns database)) left before now =
    KeepsOthers before now database ⊎ TellsNothing now
KeepsFiles (Some (run_script database)) left before now = KeepsBut (MaySave left) before now
KeepsFiles request left before now = now ≡ before

-- ---- the answer that is due

-- Where the store tells the file of the list, it isn't loaded by this cause.
pub data IsListDue (kind : ListKind) (name : List ℕ) (told : Told) : Cause → Type 0 where
  no_list :
      told ≡ lacks →
      IsListDue kind name told (absent name)
  long_list : (bytes : List ℕ) →
      told ≡ holds bytes →
      greatest_list < length bytes →
      IsListDue kind name told limit
  list_refused : {cause : Cause} (bytes : List ℕ) →
      told ≡ holds bytes →
      length bytes ≤ greatest_list →
      IsRefused kind bytes cause →
      IsListDue kind name told cause

-- The store tells the file of the list, and it is accepted.
pub record TellsList (kind : ListKind) (told : Told) : Type 0 where
  pub bytes : List ℕ
  pub entries : List ListedEntry
  pub patterns : List Pattern
  pub here : told ≡ holds bytes
  pub within : length bytes ≤ greatest_list
  pub accepted : IsAccepted kind bytes entries patterns

-- Where the store tells the files that the words name, and the source the script where one is run, one answer is due,
-- in this order of causes.
pub data IsDue (told : List ℕ → Told) (left : Option (List ℕ)) : Option Request → Option Cause → Type 0 where
  no_command : IsDue told left None (Some usage)
  -- the list
  unloaded : (request : Request) (cause : Cause) →
      NamesList request →
      IsListDue (list_kind request) (list_name request) (told (list_name request)) cause →
      IsDue told left (Some request) (Some cause)
  -- the file that is scanned
  no_file : (request : Request) (file : List ℕ) →
      scanned_by request ≡ file_named file →
      TellsList (list_kind request) (told (list_name request)) →
      told file ≡ lacks →
      IsDue told left (Some request) (Some (absent file))
  long_file : (request : Request) (file contents : List ℕ) →
      scanned_by request ≡ file_named file →
      TellsList (list_kind request) (told (list_name request)) →
      told file ≡ holds contents →
      greatest_offset < length contents →
      IsDue told left (Some request) (Some limit)
  whole : (request : Request) (file contents : List ℕ) →
      scanned_by request ≡ file_named file →
      TellsList (list_kind request) (told (list_name request)) →
      told file ≡ holds contents →
      length contents ≤ greatest_offset →
      IsDue told left (Some request) None
  -- the script of the input: without a fault, or with one
  whole_script : (request : Request) (bytes : List ℕ) (actions : List Action) →
      scanned_by request ≡ script_of_input →
      TellsList (list_kind request) (told (list_name request)) →
      left ≡ Some bytes →
      length bytes < most_script →
      IsScript 1 bytes actions None →
      IsDue told left (Some request) None
  faulty_script : (request : Request) (bytes : List ℕ) (actions : List Action) (fault : ScriptFault) →
      scanned_by request ≡ script_of_input →
      TellsList (list_kind request) (told (list_name request)) →
      left ≡ Some bytes →
      length bytes < most_script →
      IsScript 1 bytes actions (Some fault) →
      IsDue told left (Some request) (Some (script fault))
  -- nothing is scanned
  loaded : (request : Request) →
      scanned_by request ≡ no_bytes →
      TellsList (list_kind request) (told (list_name request)) →
      IsDue told left (Some request) None
  -- what is drawn is scanned: its list is accepted, or refused
  drawn : (seed count : ℕ) (P : List Pattern) →
      AreAcceptedAs (drawn_entries seed count) P →
      IsDue told left (Some (soak seed count)) None
  drawn_refused : (seed count number : ℕ) (id : ExprId) (refusal : Refusal) →
      IsFirstRefusal (drawn_entries seed count) number id refusal →
      IsDue told left (Some (soak seed count)) (Some (refused (Some (number, id)) refusal))

-- the file that is scanned, if one is, is told
abbrev pub TellsScanned : Scanned → (List ℕ → Told) → Type 0
TellsScanned no_bytes told = Unit {0}
TellsScanned (file_named file) told = told file ≢ untold
TellsScanned script_of_input told = Unit {0}
TellsScanned drawn_bytes told = Unit {0}

-- the file that a command scans, if it scans one, is told
abbrev pub TellsFile : Option Request → (List ℕ → Told) → Type 0
TellsFile None told = Unit {0}
TellsFile (Some request) told = TellsScanned (scanned_by request) told

-- The outcome is the one that is due, where one is and no call on the outside failed, or memory was wanted.
abbrev pub IsDueOutcome : Option Request → Outside → Outside → Input → Input → Option Cause → Type 0
IsDueOutcome request before now input inputs outcome =
    (due : Option Cause) →
    IsDue before.told input.left request due →
    (Rose before.stored now.stored → ⊥) →
    (Rose before.sunk now.sunk → ⊥) →
    (IsStream request → Rose input.faults inputs.faults → ⊥) →
    (outcome ≡ due) ⊎ (outcome ≡ Some memory)

-- ---- the program

-- The line was written, or a beginning of it where the sink failed.
pub data Tells (line : List ℕ) (before now : Option (List ℕ)) (count counted : ℕ) : Type 0 where
  told :
      Took before now line →
      counted ≡ count →
      Tells line before now count counted
  cut :
      TookPrefix before now line →
      Rose count counted →
      Tells line before now count counted

-- The program's answer: its status, what it leaves, and the line that it writes are those of one outcome.
pub record IsAnswer (request : Option Request) (before now : Outside) (input inputs : Input)
    (err erred : Option (List ℕ)) (count counted : ℕ) (status : ℕ) : Type 0 where
  pub outcome : Option Cause
  pub ended : status ≡ status_of outcome
  pub ends : Ends request before now input inputs outcome
  pub due : IsDueOutcome request before now input inputs outcome
  pub line : Tells (fault_line outcome) err erred count counted

-- the statuses of the program
abbrev pub IsStatus : ℕ → Type 0
IsStatus status = OneOf (λ n. status ≡ n) (0 ∷ 1 ∷ 2 ∷ 3 ∷ 4 ∷ 5 ∷ 6 ∷ 7 ∷ 8 ∷ [])

-- the statuses with which nothing was written to the sink: wrong words, a refusal, another form, no memory, and, where
-- the file that is scanned is told, no file
abbrev pub IsSilentStatus : ℕ → Type 0
IsSilentStatus status = OneOf (λ n. status ≡ n) (1 ∷ 2 ∷ 4 ∷ 6 ∷ 7 ∷ [])

-- the statuses with which a script was run to its end: without a fault, and with one
abbrev pub status_of_ending : Option ScriptFault → ℕ
status_of_ending None = 0
status_of_ending (Some fault) = 5

-- The database is accepted, the script that the source has ends so that the status is this one, and the sink took the
-- text of a run of the machine over it. That is so by whichever streams' state files those of the store are taken for,
-- and the files are then those of the machine.
pub record HasRun (database : List ℕ) (told tells : List ℕ → Told) (left out outs : Option (List ℕ))
    (status : ℕ) : Type 0 where
  pub entries : List ListedEntry
  pub patterns : List Pattern
  pub list : HasDatabase (told database) entries patterns
  pub ending : Option ScriptFault
  pub ended : status ≡ status_of_ending ending
  pub text : List ℕ
  pub over : ByEach entries patterns (λ basis. IsTextOver basis told tells left ending text)
  pub taken : Took out outs text

-- The sink took the five lines of `soak`: both runs tell how many new reports the whole stream that is drawn has,
-- followed by its last ones, and the sum of their ends.
pub record HasSoaked (seed count : ℕ) (out outs : Option (List ℕ)) : Type 0 where
  pub text : List ℕ
  pub lines : IsSoakText seed count text
  pub taken : Took out outs text
