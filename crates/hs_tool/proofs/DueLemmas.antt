-- How a command ended is how it was due, where the store tells the files and no call on the outside failed.
use Rattle.std.proofs.Common.{◌≡◌, ℕ, ◌<◌, ◌≤◌, ◌⊎◌, List, [], length, ◌++◌, Option, Some, None, refl, sym, ap, ◌∙◌, subst, arith, length-append, inl, inr}
use Rattle.hs_base.specs.declared.entry.ExprId.{ExprId}
use Rattle.hs_base.specs.declared.refusal.Refusal.{Refusal}
use Rattle.hs_base.specs.Entries.{ListedEntry}
use Rattle.hs_base.specs.Patterns.{Pattern}
use Rattle.hs_outside.specs.Counts.{Rose}
use Rattle.hs_outside.specs.Source.{Gave, IsWhole}
use Rattle.hs_outside.specs.Store.{Told, lacks, holds, IsFile, IsMissing, IsLonger}
use Rattle.hs_text.specs.declared.reply_lines.ScriptFault.{ScriptFault}
use Rattle.hs_script.specs.Actions.{Action}
use Rattle.hs_script.specs.Bases.{Basis}
use Rattle.hs_script.specs.Scripts.{IsScript}
use Rattle.hs_script.proofs.ScriptLemmas.{script_once}
use Rattle.hs_reader.specs.Reading.{most_script}
use Rattle.hs_request.specs.Requests.{Request, match_file, check_list, compile_list, tell_database, scan_file, run_script, soak}
use Rattle.hs_lists.specs.ListKinds.{ListKind, database_file}
use Rattle.hs_tool.specs.Commands.{no_bytes, file_named, script_of_input, drawn_bytes, list_kind, list_name, scanned_by, NamesList}
use Rattle.hs_lists.specs.Accepting.{IsAccepted, IsRefused}
use Rattle.hs_base.specs.Offsets.{greatest_offset}
use Rattle.hs_lists.specs.Causes.{Cause, refused, absent, limit, script, memory}
use Rattle.hs_tool.specs.Streaming.{IsTextOver}
use Rattle.hs_tool.specs.Answers
use Rattle.hs_lists.specs.Endings
use Rattle.hs_lists.specs.Endings.{greatest_list, Outside, HasList, HasRefusedList, StopsList, TellEnds, CompileEnds}
use Rattle.hs_tool.specs.Answers.{Input, HasWritten, ScanEnds, StreamEnds, UsageEnds, Ends, IsListDue, TellsList, IsDue, IsDueOutcome}
use Rattle.hs_compile.specs.Lists.{IsFirstRefusal}
use Rattle.hs_compile.proofs.ListLemmas as lists
use Rattle.hs_stream.specs.Drawing.{drawn_entries}
use Rattle.hs_tool.specs.SoakEndings as soaks
use Rattle.hs_tool.specs.SoakEndings.{IsSoakText, SoakEnds}
use Rattle.hs_lists.proofs.OnceLemmas.{accepted-refused, refused_once}
use Rattle.hs_tool.proofs.StreamLemmas.{some_basis}

-- ---- what is told of a file that is missing, there or longer than its limit

lacks-file : {told : Told} (bytes : List ℕ) → told ≡ lacks → IsFile told bytes → ⊥
lacks-file {told} bytes same file = subst (λ t. IsFile t bytes) same file

holds-missing : {told : Told} {bytes : List ℕ} → told ≡ holds bytes → IsMissing told → ⊥
holds-missing {told} {bytes} same missing = subst IsMissing same missing

lacks-longer : {told : Told} (most : ℕ) → told ≡ lacks → IsLonger told most → ⊥
lacks-longer {told} most same longer = subst (λ t. IsLonger t most) same longer

holds-longer : {told : Told} {bytes : List ℕ} (most : ℕ) → told ≡ holds bytes → IsLonger told most → most < length bytes
holds-longer {told} {bytes} most same longer = subst (λ t. IsLonger t most) same longer

holds-file : {told : Told} {bytes : List ℕ} (other : List ℕ) → told ≡ holds bytes → IsFile told other → bytes ≡ other
holds-file {told} {bytes} other same file = subst (λ t. IsFile t other) same file

too_long : {told : Told} {bytes : List ℕ} (other : List ℕ) (most : ℕ) → told ≡ holds bytes → IsFile told other → length other ≤ most → most < length bytes → ⊥
too_long other most same file within longer = let e = ap length (holds-file other same file) in omega arith

short : {told : Told} {bytes : List ℕ} (most : ℕ) → told ≡ holds bytes → length bytes ≤ most → IsLonger told most → ⊥
short most here within longer = let more = holds-longer most here longer in omega arith

-- ---- the list

-- a list that is there and accepted has no due cause
list-due : {kind : ListKind} {name : List ℕ} {told : Told} {entries : List ListedEntry} {P : List Pattern} {cause : Cause} → HasList kind told entries P → IsListDue kind name told cause → ⊥
list-due has (Answers.no_list gone) = lacks-file _ gone has.file
list-due has (Answers.long_list bytes here longer) = too_long _ _ here has.file has.within longer
list-due {kind = kind} {entries = entries} {P = P} has (Answers.list_refused bytes here within bad) =
    accepted-refused (subst (λ b. IsAccepted kind b entries P) (sym (holds-file _ here has.file)) has.accepted) bad

-- a list that isn't loaded is so by the cause that is due, by a fault or for memory
stopped-due : {kind : ListKind} {name : List ℕ} {told : Told} {before now : ℕ} {cause due : Cause} → StopsList kind name told before now cause → IsListDue kind name told due → (Rose before now → ⊥) → (Some cause ≡ Some due) ⊎ (Some cause ≡ Some memory)
stopped-due (Endings.no_list missing none) (Answers.no_list gone) quiet = inl refl
stopped-due (Endings.no_list missing none) (Answers.long_list bytes here longer) quiet = absurd (holds-missing here missing)
stopped-due (Endings.no_list missing none) (Answers.list_refused bytes here within bad) quiet = absurd (holds-missing here missing)
stopped-due (Endings.list_failed rose) due quiet = absurd (quiet rose)
stopped-due (Endings.long_list more none) (Answers.no_list gone) quiet = absurd (lacks-longer _ gone more)
stopped-due (Endings.long_list more none) (Answers.long_list bytes here longer) quiet = inl refl
stopped-due (Endings.long_list more none) (Answers.list_refused bytes here within bad) quiet = absurd (short _ here within more)
stopped-due (Endings.list_refused has none) (Answers.no_list gone) quiet = absurd (lacks-file _ gone has.file)
stopped-due (Endings.list_refused has none) (Answers.long_list bytes here longer) quiet = absurd (too_long _ _ here has.file has.within longer)
stopped-due {kind = kind} (Endings.list_refused has none) (Answers.list_refused {cause = due} bytes here within bad) quiet =
    inl (ap Some (refused_once has.refused (subst (λ b. IsRefused kind b due) (holds-file _ here has.file) bad)))
stopped-due (Endings.no_memory none) due quiet = inr refl

-- a list that is told and accepted isn't loaded only for memory
stopped-told : {kind : ListKind} {name : List ℕ} {told : Told} {before now : ℕ} {cause : Cause} (due : Option Cause) → StopsList kind name told before now cause → TellsList kind told → (Rose before now → ⊥) → (Some cause ≡ due) ⊎ (Some cause ≡ Some memory)
stopped-told due (Endings.no_list missing none) tells quiet = absurd (holds-missing tells.here missing)
stopped-told due (Endings.list_failed rose) tells quiet = absurd (quiet rose)
stopped-told due (Endings.long_list more none) tells quiet = absurd (short _ tells.here tells.within more)
stopped-told {kind = kind} due (Endings.list_refused has none) tells quiet =
    absurd (accepted-refused (subst (λ b. IsAccepted kind b tells.entries tells.patterns) (holds-file _ tells.here has.file) tells.accepted) has.refused)
stopped-told due (Endings.no_memory none) tells quiet = inr refl

-- ---- the commands

-- a command whose list isn't loaded
due-stopped : (request : Request) (before now : Outside) (input inputs : Input) (cause : Cause) → NamesList request → StopsList (list_kind request) (list_name request) (before.told (list_name request)) before.stored now.stored cause → IsDueOutcome (Some request) before now input inputs (Some cause)
due-stopped request before now input inputs cause from_file stops due (Answers.unloaded _ other names is) quiet still reads = stopped-due stops is quiet
due-stopped request before now input inputs cause from_file stops due (Answers.no_file _ file scans tells gone) quiet still reads = stopped-told due stops tells quiet
due-stopped request before now input inputs cause from_file stops due (Answers.long_file _ file contents scans tells there longer) quiet still reads = stopped-told due stops tells quiet
due-stopped request before now input inputs cause from_file stops due (Answers.whole _ file contents scans tells there fits) quiet still reads = stopped-told due stops tells quiet
due-stopped request before now input inputs cause from_file stops due (Answers.whole_script _ bytes actions scans tells gives within is') quiet still reads = stopped-told due stops tells quiet
due-stopped request before now input inputs cause from_file stops due (Answers.faulty_script _ bytes actions fault scans tells gives within is') quiet still reads = stopped-told due stops tells quiet
due-stopped request before now input inputs cause from_file stops due (Answers.loaded _ scans tells) quiet still reads = stopped-told due stops tells quiet
due-stopped request before now input inputs cause from_file stops due (Answers.drawn seed count P accepted) quiet still reads = absurd from_file
due-stopped request before now input inputs cause from_file stops due (Answers.drawn_refused seed count number id refusal first) quiet still reads = absurd from_file

-- one file is scanned
same-name : {file other : List ℕ} → file_named file ≡ file_named other → file ≡ other
same-name e = cc

file-none : {file : List ℕ} → file_named file ≡ no_bytes → ⊥
file-none e = cc

file-script : {file : List ℕ} → file_named file ≡ script_of_input → ⊥
file-script e = cc

script-none : script_of_input ≡ no_bytes → ⊥
script-none e = cc

drawn-file : {file : List ℕ} → drawn_bytes ≡ file_named file → ⊥
drawn-file e = cc

drawn-none : drawn_bytes ≡ no_bytes → ⊥
drawn-none e = cc

drawn-script : drawn_bytes ≡ script_of_input → ⊥
drawn-script e = cc

-- what isn't drawn is scanned for a list that a file holds
scans-lists : (request : Request) → (scanned_by request ≡ drawn_bytes → ⊥) → NamesList request
scans-lists (match_file patterns file) apart = tt
scans-lists (check_list patterns) apart = tt
scans-lists (compile_list patterns database) apart = tt
scans-lists (tell_database database) apart = tt
scans-lists (scan_file database file) apart = tt
scans-lists (run_script database) apart = tt
scans-lists (soak seed count) apart = absurd (apart refl)

-- a command that scans a file
due-scanned : (request : Request) (file : List ℕ) (before now : Outside) (input inputs : Input) (entries : List ListedEntry) (P : List Pattern) → scanned_by request ≡ file_named file → HasList (list_kind request) (before.told (list_name request)) entries P → HasWritten (before.told file) P before.out now.out → IsDueOutcome (Some request) before now input inputs None
due-scanned request file before now input inputs entries P scans has written due (Answers.unloaded _ other names is) quiet still reads = absurd (list-due has is)
due-scanned request file before now input inputs entries P scans has written due (Answers.no_file _ other scans' tells gone) quiet still reads =
    absurd (lacks-file _ (ap before.told (same-name (sym scans ∙ scans')) ∙ gone) written.file)
due-scanned request file before now input inputs entries P scans has written due (Answers.long_file _ other contents scans' tells there longer) quiet still reads =
    absurd (too_long _ _ (ap before.told (same-name (sym scans ∙ scans')) ∙ there) written.file written.within longer)
due-scanned request file before now input inputs entries P scans has written due (Answers.whole _ other contents scans' tells there fits) quiet still reads = inl refl
due-scanned request file before now input inputs entries P scans has written due (Answers.whole_script _ bytes actions scans' tells gives within is') quiet still reads = absurd (file-script (sym scans ∙ scans'))
due-scanned request file before now input inputs entries P scans has written due (Answers.faulty_script _ bytes actions fault scans' tells gives within is') quiet still reads = absurd (file-script (sym scans ∙ scans'))
due-scanned request file before now input inputs entries P scans has written due (Answers.loaded _ scans' tells) quiet still reads = inl refl
due-scanned request file before now input inputs entries P scans has written due (Answers.drawn seed count Q accepted) quiet still reads = absurd (drawn-file scans)
due-scanned request file before now input inputs entries P scans has written due (Answers.drawn_refused seed count number id refusal first) quiet still reads = absurd (drawn-file scans)

due-no_file : (request : Request) (file : List ℕ) (before now : Outside) (input inputs : Input) (entries : List ListedEntry) (P : List Pattern) → scanned_by request ≡ file_named file → HasList (list_kind request) (before.told (list_name request)) entries P → IsMissing (before.told file) → IsDueOutcome (Some request) before now input inputs (Some (absent file))
due-no_file request file before now input inputs entries P scans has missing due (Answers.unloaded _ other names is) quiet still reads = absurd (list-due has is)
due-no_file request file before now input inputs entries P scans has missing due (Answers.no_file _ other scans' tells gone) quiet still reads = inl (ap (λ f. Some (absent f)) (same-name (sym scans ∙ scans')))
due-no_file request file before now input inputs entries P scans has missing due (Answers.long_file _ other contents scans' tells there longer) quiet still reads =
    absurd (holds-missing (ap before.told (same-name (sym scans ∙ scans')) ∙ there) missing)
due-no_file request file before now input inputs entries P scans has missing due (Answers.whole _ other contents scans' tells there fits) quiet still reads =
    absurd (holds-missing (ap before.told (same-name (sym scans ∙ scans')) ∙ there) missing)
due-no_file request file before now input inputs entries P scans has missing due (Answers.whole_script _ bytes actions scans' tells gives within is') quiet still reads = absurd (file-script (sym scans ∙ scans'))
due-no_file request file before now input inputs entries P scans has missing due (Answers.faulty_script _ bytes actions fault scans' tells gives within is') quiet still reads = absurd (file-script (sym scans ∙ scans'))
due-no_file request file before now input inputs entries P scans has missing due (Answers.loaded _ scans' tells) quiet still reads = absurd (file-none (sym scans ∙ scans'))
due-no_file request file before now input inputs entries P scans has missing due (Answers.drawn seed count Q accepted) quiet still reads = absurd (drawn-file scans)
due-no_file request file before now input inputs entries P scans has missing due (Answers.drawn_refused seed count number id refusal first) quiet still reads = absurd (drawn-file scans)

due-long_file : (request : Request) (file : List ℕ) (before now : Outside) (input inputs : Input) (entries : List ListedEntry) (P : List Pattern) → scanned_by request ≡ file_named file → HasList (list_kind request) (before.told (list_name request)) entries P → IsLonger (before.told file) greatest_offset → IsDueOutcome (Some request) before now input inputs (Some limit)
due-long_file request file before now input inputs entries P scans has more due (Answers.unloaded _ other names is) quiet still reads = absurd (list-due has is)
due-long_file request file before now input inputs entries P scans has more due (Answers.no_file _ other scans' tells gone) quiet still reads =
    absurd (lacks-longer _ (ap before.told (same-name (sym scans ∙ scans')) ∙ gone) more)
due-long_file request file before now input inputs entries P scans has more due (Answers.long_file _ other contents scans' tells there longer) quiet still reads = inl refl
due-long_file request file before now input inputs entries P scans has more due (Answers.whole _ other contents scans' tells there fits) quiet still reads =
    absurd (short _ (ap before.told (same-name (sym scans ∙ scans')) ∙ there) fits more)
due-long_file request file before now input inputs entries P scans has more due (Answers.whole_script _ bytes actions scans' tells gives within is') quiet still reads = absurd (file-script (sym scans ∙ scans'))
due-long_file request file before now input inputs entries P scans has more due (Answers.faulty_script _ bytes actions fault scans' tells gives within is') quiet still reads = absurd (file-script (sym scans ∙ scans'))
due-long_file request file before now input inputs entries P scans has more due (Answers.loaded _ scans' tells) quiet still reads = absurd (file-none (sym scans ∙ scans'))
due-long_file request file before now input inputs entries P scans has more due (Answers.drawn seed count Q accepted) quiet still reads = absurd (drawn-file scans)
due-long_file request file before now input inputs entries P scans has more due (Answers.drawn_refused seed count number id refusal first) quiet still reads = absurd (drawn-file scans)

due-scan : (request : Request) (file : List ℕ) (before now : Outside) (input inputs : Input) (outcome : Option Cause) → scanned_by request ≡ file_named file → ScanEnds (list_kind request) (list_name request) file before now outcome → IsDueOutcome (Some request) before now input inputs outcome
due-scan request file before now input inputs _ scans (Answers.done entries P has written none) = due-scanned request file before now input inputs entries P scans has written
due-scan request file before now input inputs _ scans (Answers.stopped cause early) = due-stopped request before now input inputs cause (scans-lists request (λ e. drawn-file (sym e ∙ scans))) early.stops
due-scan request file before now input inputs _ scans (Answers.no_file entries P has missing begun none) = due-no_file request file before now input inputs entries P scans has missing
due-scan request file before now input inputs _ scans (Answers.file_failed entries P has begun rose) = λ due is quiet still reads. absurd (quiet rose)
due-scan request file before now input inputs _ scans (Answers.long_file entries P has longer begun none) = due-long_file request file before now input inputs entries P scans has longer
due-scan request file before now input inputs _ scans (Answers.sink_failed entries P has begun rose) = λ due is quiet still reads. absurd (still rose)

-- a command that scans none, and is done
due-loaded : (request : Request) (before now : Outside) (input inputs : Input) (entries : List ListedEntry) (P : List Pattern) → scanned_by request ≡ no_bytes → HasList (list_kind request) (before.told (list_name request)) entries P → IsDueOutcome (Some request) before now input inputs None
due-loaded request before now input inputs entries P scans has due (Answers.unloaded _ other names is) quiet still reads = absurd (list-due has is)
due-loaded request before now input inputs entries P scans has due (Answers.no_file _ other scans' tells gone) quiet still reads = absurd (file-none (sym scans' ∙ scans))
due-loaded request before now input inputs entries P scans has due (Answers.long_file _ other contents scans' tells there longer) quiet still reads = absurd (file-none (sym scans' ∙ scans))
due-loaded request before now input inputs entries P scans has due (Answers.whole _ other contents scans' tells there fits) quiet still reads = inl refl
due-loaded request before now input inputs entries P scans has due (Answers.whole_script _ bytes actions scans' tells gives within is') quiet still reads = absurd (script-none (sym scans' ∙ scans))
due-loaded request before now input inputs entries P scans has due (Answers.faulty_script _ bytes actions fault scans' tells gives within is') quiet still reads = absurd (script-none (sym scans' ∙ scans))
due-loaded request before now input inputs entries P scans has due (Answers.loaded _ scans' tells) quiet still reads = inl refl
due-loaded request before now input inputs entries P scans has due (Answers.drawn seed count Q accepted) quiet still reads = absurd (drawn-none scans)
due-loaded request before now input inputs entries P scans has due (Answers.drawn_refused seed count number id refusal first) quiet still reads = absurd (drawn-none scans)

due-tell : (IsText : List ListedEntry → List ℕ → Type 0) (request : Request) (before now : Outside) (input inputs : Input) (outcome : Option Cause) → scanned_by request ≡ no_bytes → TellEnds IsText (list_kind request) (list_name request) before now outcome → IsDueOutcome (Some request) before now input inputs outcome
due-tell IsText request before now input inputs _ scans (Endings.done entries P text has is taken none) = due-loaded request before now input inputs entries P scans has
due-tell IsText request before now input inputs _ scans (Endings.stopped cause early) = due-stopped request before now input inputs cause (scans-lists request (λ e. drawn-none (sym e ∙ scans))) early.stops
due-tell IsText request before now input inputs _ scans (Endings.sink_failed entries P text has is taken rose) = λ due is quiet still reads. absurd (still rose)

due-compile : (patterns database : List ℕ) (before now : Outside) (input inputs : Input) (outcome : Option Cause) → CompileEnds patterns database before now outcome → IsDueOutcome (Some (compile_list patterns database)) before now input inputs outcome
due-compile patterns database before now input inputs _ (Endings.done entries P bytes has is put taken none) = due-loaded (compile_list patterns database) before now input inputs entries P refl has
due-compile patterns database before now input inputs _ (Endings.stopped cause early kept) = due-stopped (compile_list patterns database) before now input inputs cause tt early.stops
due-compile patterns database before now input inputs _ (Endings.put_failed entries P has spoils nothing rose) = λ due is quiet still reads. absurd (quiet rose)
due-compile patterns database before now input inputs _ (Endings.sink_failed entries P bytes has is put taken rose) = λ due is quiet still reads. absurd (still rose)

-- ---- the script of the input

-- the whole script is the one that the source told
whole-told : {left : Option (List ℕ)} {bytes : List ℕ} (other : List ℕ) → left ≡ Some bytes → IsWhole left other → bytes ≡ other
whole-told other same whole = subst (λ l. IsWhole l other) same whole

-- no more was given than the source had
given-within : (left lefts : Option (List ℕ)) (bytes taken : List ℕ) → left ≡ Some bytes → Gave left lefts taken → length taken ≤ length bytes
given-within left None bytes taken same gave = absurd (subst (λ l. Gave l None taken) same gave)
given-within left (Some rest) bytes taken same gave =
    let split : bytes ≡ taken ++ rest = subst (λ l. Gave l (Some rest) taken) same gave in
    let count = ap length split in omega (arith, count, length-append taken rest)

too_many : (left lefts : Option (List ℕ)) (bytes taken : List ℕ) → left ≡ Some bytes → Gave left lefts taken → most_script ≤ length taken → length bytes < most_script → ⊥
too_many left lefts bytes taken gives gave long within = let count = given-within left lefts bytes taken gives gave in omega arith

-- it ends in one way
same-ending : {basis : Basis} {told tells : List ℕ → Told} {left : Option (List ℕ)} {ending other : Option ScriptFault} {text bytes : List ℕ} {actions : List Action} → IsTextOver basis told tells left ending text → left ≡ Some bytes → IsScript 1 bytes actions other → ending ≡ other
same-ending {other = other} {actions = actions} over gives is =
    sym over.run.is ∙ (script_once over.run.run.script (subst (λ b. IsScript 1 b actions other) (whole-told over.bytes gives over.whole) is)).same_ending

-- the outcome of a script that ends so
abbrev outcome_of_ending : Option ScriptFault → Option Cause
outcome_of_ending None = None
outcome_of_ending (Some fault) = Some (script fault)

script-file : {file : List ℕ} → script_of_input ≡ file_named file → ⊥
script-file e = cc

-- a script that was run to its end or its fault
due-served : {basis : Basis} {told tells : List ℕ → Told} (database : List ℕ) (before now : Outside) (input inputs : Input) (entries : List ListedEntry) (P : List Pattern) (ending : Option ScriptFault) (text : List ℕ) → HasList database_file (before.told database) entries P → IsTextOver basis told tells input.left ending text → IsDueOutcome (Some (run_script database)) before now input inputs (outcome_of_ending ending)
due-served database before now input inputs entries P ending text has over due (Answers.unloaded _ other names is) quiet still reads = absurd (list-due has is)
due-served database before now input inputs entries P ending text has over due (Answers.no_file _ file scans tells gone) quiet still reads = absurd (script-file scans)
due-served database before now input inputs entries P ending text has over due (Answers.long_file _ file contents scans tells there longer) quiet still reads = absurd (script-file scans)
due-served database before now input inputs entries P ending text has over due (Answers.whole _ file contents scans tells there fits) quiet still reads = absurd (script-file scans)
due-served database before now input inputs entries P ending text has over due (Answers.whole_script _ bytes actions scans tells gives within is) quiet still reads = inl (ap outcome_of_ending (same-ending over gives is))
due-served database before now input inputs entries P ending text has over due (Answers.faulty_script _ bytes actions fault scans tells gives within is) quiet still reads = inl (ap outcome_of_ending (same-ending over gives is))
due-served database before now input inputs entries P ending text has over due (Answers.loaded _ scans tells) quiet still reads = absurd (script-none scans)

-- one that is too long
due-long_script : (database : List ℕ) (before now : Outside) (input inputs : Input) (entries : List ListedEntry) (P : List Pattern) (taken : List ℕ) → HasList database_file (before.told database) entries P → Gave input.left inputs.left taken → most_script ≤ length taken → IsDueOutcome (Some (run_script database)) before now input inputs (Some limit)
due-long_script database before now input inputs entries P taken has gave long due (Answers.unloaded _ other names is) quiet still reads = absurd (list-due has is)
due-long_script database before now input inputs entries P taken has gave long due (Answers.no_file _ file scans tells gone) quiet still reads = absurd (script-file scans)
due-long_script database before now input inputs entries P taken has gave long due (Answers.long_file _ file contents scans tells there longer) quiet still reads = absurd (script-file scans)
due-long_script database before now input inputs entries P taken has gave long due (Answers.whole _ file contents scans tells there fits) quiet still reads = absurd (script-file scans)
due-long_script database before now input inputs entries P taken has gave long due (Answers.whole_script _ bytes actions scans tells gives within is) quiet still reads =
    absurd (too_many input.left inputs.left bytes taken gives gave long within)
due-long_script database before now input inputs entries P taken has gave long due (Answers.faulty_script _ bytes actions fault scans tells gives within is) quiet still reads =
    absurd (too_many input.left inputs.left bytes taken gives gave long within)
due-long_script database before now input inputs entries P taken has gave long due (Answers.loaded _ scans tells) quiet still reads = absurd (script-none scans)

due-stream : (database : List ℕ) (before now : Outside) (input inputs : Input) (outcome : Option Cause) → StreamEnds database before now input inputs outcome → IsDueOutcome (Some (run_script database)) before now input inputs outcome
due-stream database before now input inputs _ (Answers.done entries P has served end none still') =
    let some = some_basis has in
    due-served database before now input inputs entries P None served.text has.list (served.over some.0 some.1)
due-stream database before now input inputs _ (Answers.faulty entries P fault has served none still') =
    let some = some_basis has in
    due-served database before now input inputs entries P (Some fault) served.text has.list (served.over some.0 some.1)
due-stream database before now input inputs _ (Answers.stopped cause early same kept) = due-stopped (run_script database) before now input inputs cause tt early.stops
due-stream database before now input inputs _ (Answers.source_failed entries P bytes has answered none rose) = λ due is quiet still reads. absurd (reads tt rose)
due-stream database before now input inputs _ (Answers.long_script entries P bytes has answered long none still') = due-long_script database before now input inputs entries P bytes has.list answered.given long
due-stream database before now input inputs _ (Answers.store_failed entries P has stopped rose sunk still') = λ due is quiet still reads. absurd (quiet rose)
due-stream database before now input inputs _ (Answers.sink_failed entries P has begun rose) = λ due is quiet still reads. absurd (still rose)

-- ---- what is drawn from a seed

-- the runs over it were told
due-soaked : (seed count : ℕ) (text : List ℕ) (before now : Outside) (input inputs : Input) → IsSoakText seed count text → IsDueOutcome (Some (soak seed count)) before now input inputs None
due-soaked seed count text before now input inputs is due (Answers.unloaded _ other names list) quiet still reads = absurd names
due-soaked seed count text before now input inputs is due (Answers.no_file _ file scans tells gone) quiet still reads = absurd (drawn-file scans)
due-soaked seed count text before now input inputs is due (Answers.long_file _ file contents scans tells there longer) quiet still reads = absurd (drawn-file scans)
due-soaked seed count text before now input inputs is due (Answers.whole _ file contents scans tells there fits) quiet still reads = absurd (drawn-file scans)
due-soaked seed count text before now input inputs is due (Answers.whole_script _ bytes actions scans tells gives within runs) quiet still reads = absurd (drawn-script scans)
due-soaked seed count text before now input inputs is due (Answers.faulty_script _ bytes actions fault scans tells gives within runs) quiet still reads = absurd (drawn-script scans)
due-soaked seed count text before now input inputs is due (Answers.loaded _ scans tells) quiet still reads = absurd (drawn-none scans)
due-soaked seed count text before now input inputs is due (Answers.drawn _ _ P accepted) quiet still reads = inl refl
due-soaked seed count text before now input inputs is due (Answers.drawn_refused _ _ number id refusal first) quiet still reads =
    absurd (lists.accepted-refused [] number (drawn_entries seed count) is.patterns id refusal is.accepted first)

-- its list is refused
due-drawn_refused : (seed count number : ℕ) (id : ExprId) (refusal : Refusal) (before now : Outside) (input inputs : Input) → IsFirstRefusal (drawn_entries seed count) number id refusal → IsDueOutcome (Some (soak seed count)) before now input inputs (Some (refused (Some (number, id)) refusal))
due-drawn_refused seed count number id refusal before now input inputs first due (Answers.unloaded _ other names list) quiet still reads = absurd names
due-drawn_refused seed count number id refusal before now input inputs first due (Answers.no_file _ file scans tells gone) quiet still reads = absurd (drawn-file scans)
due-drawn_refused seed count number id refusal before now input inputs first due (Answers.long_file _ file contents scans tells there longer) quiet still reads = absurd (drawn-file scans)
due-drawn_refused seed count number id refusal before now input inputs first due (Answers.whole _ file contents scans tells there fits) quiet still reads = absurd (drawn-file scans)
due-drawn_refused seed count number id refusal before now input inputs first due (Answers.whole_script _ bytes actions scans tells gives within runs) quiet still reads = absurd (drawn-script scans)
due-drawn_refused seed count number id refusal before now input inputs first due (Answers.faulty_script _ bytes actions fault scans tells gives within runs) quiet still reads = absurd (drawn-script scans)
due-drawn_refused seed count number id refusal before now input inputs first due (Answers.loaded _ scans tells) quiet still reads = absurd (drawn-none scans)
due-drawn_refused seed count number id refusal before now input inputs first due (Answers.drawn _ _ P accepted) quiet still reads =
    absurd (lists.accepted-refused [] number (drawn_entries seed count) P id refusal accepted first)
due-drawn_refused seed count number id refusal before now input inputs first due (Answers.drawn_refused _ _ number' id' refusal' first') quiet still reads =
    let once = lists.first_once [] number number' (drawn_entries seed count) id id' refusal refusal' first first' in
    inl (ap (λ n. Some (refused (Some (n, id)) refusal)) once.same_number ∙ (ap (λ i. Some (refused (Some (number', i)) refusal)) once.same_id ∙ ap (λ r. Some (refused (Some (number', id')) r)) once.same_refusal))

due-soak : (seed count : ℕ) (before now : Outside) (input inputs : Input) (outcome : Option Cause) → SoakEnds seed count before now outcome → IsDueOutcome (Some (soak seed count)) before now input inputs outcome
due-soak seed count before now input inputs _ (soaks.done text is taken none) = due-soaked seed count text before now input inputs is
due-soak seed count before now input inputs _ (soaks.list_refused number id refusal first quiet none) = due-drawn_refused seed count number id refusal before now input inputs first
due-soak seed count before now input inputs _ (soaks.no_memory quiet none) = λ due is quiet still reads. inr refl
due-soak seed count before now input inputs _ (soaks.sink_failed text is taken rose) = λ due is quiet still reads. absurd (still rose)

due-usage : (before now : Outside) (input inputs : Input) (outcome : Option Cause) → UsageEnds before now outcome → IsDueOutcome None before now input inputs outcome
due-usage before now input inputs outcome ends due Answers.no_command quiet still reads = ends.cause

pub due_outcome : (request : Option Request) (before now : Outside) (input inputs : Input) (outcome : Option Cause) → Ends request before now input inputs outcome → IsDueOutcome request before now input inputs outcome
due_outcome None before now input inputs outcome ends = due-usage before now input inputs outcome ends
due_outcome (Some (match_file patterns file)) before now input inputs outcome ends = due-scan (match_file patterns file) file before now input inputs outcome refl ends
due_outcome (Some (check_list patterns)) before now input inputs outcome ends = due-tell _ (check_list patterns) before now input inputs outcome refl ends
due_outcome (Some (compile_list patterns database)) before now input inputs outcome ends = due-compile patterns database before now input inputs outcome ends
due_outcome (Some (tell_database database)) before now input inputs outcome ends = due-tell _ (tell_database database) before now input inputs outcome refl ends
due_outcome (Some (scan_file database file)) before now input inputs outcome ends = due-scan (scan_file database file) file before now input inputs outcome refl ends
due_outcome (Some (run_script database)) before now input inputs outcome ends = due-stream database before now input inputs outcome ends
due_outcome (Some (soak seed count)) before now input inputs outcome ends = due-soak seed count before now input inputs outcome ends
