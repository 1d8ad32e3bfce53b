-- From what the steps of a command leave to the command's answer.
use Rattle.std.proofs.Common.{◌≡◌, ℕ, List, [], ◌++◌, length, Option, Some, None, refl, sym, ap, ◌∙◌, subst, append_assoc, inl, inr}
use Rattle.hs_base.specs.Patterns.{Pattern}
use Rattle.hs_base.specs.Told.{Pair}
use Rattle.hs_base.specs.MatchText.{report_lines, end_line, IsMatchText}
use Rattle.hs_outside.specs.Sink.{Took, TookPrefix, IsSent, IsCutShort}
use Rattle.hs_outside.specs.Store.{Told}
use Rattle.hs_outside.proofs.Sending.{Took-nothing, Took-append, TookPrefix-after}
use Rattle.hs_base.specs.Entries.{ListedEntry}
use Rattle.hs_outside.proofs.Counting.{Rose-after_same}
use Rattle.hs_compile.specs.Databases.{Compiled}
use Rattle.hs_stream.specs.declared.stream.Stream.{Stream}
use Rattle.hs_stream.specs.Streams.{offset_of, Writes, Closes}
use Rattle.hs_stream.specs.Standing.{RunsPatterns, Stands}
use Rattle.hs_stream.proofs.StandLemmas.{write-moves, end-last}
use Rattle.hs_lines.specs.Passing.{IsPassedOn}
use Rattle.hs_tool.specs.Scanning.{Interrupts, IsClosed, IsFileScanned, IsFilePartlyScanned}
use Rattle.hs_lists.specs.Causes.{Cause, write, memory}
use Rattle.hs_request.specs.Requests.{Request, match_file, check_list, compile_list, tell_database, scan_file, run_script, soak}
use Rattle.hs_lists.specs.ListKinds.{ListKind, pattern_file, database_file}
use Rattle.hs_tool.specs.SoakEndings as soaks
use Rattle.hs_tool.specs.Answers
use Rattle.hs_lists.specs.Endings
use Rattle.hs_lists.specs.Loading.{IsLoaded}
use Rattle.hs_lists.specs.declared.loading.Loaded.{Loaded}
use Rattle.hs_lists.proofs.EndingLemmas.{no_memory_early}
use Rattle.hs_lists.specs.Endings.{greatest_list, Outside, NoFault, TookNothing, HasList, StopsList, StopsEarly, CompileEnds, list_refused, no_memory}
use Rattle.hs_tool.specs.Answers.{Input, HasWritten, HasBegun, ScanEnds, Ends, KeepsFiles}
use Rattle.hs_tool.proofs.SaveLemmas.{keeps-same}
use Rattle.hs_tool.specs.Stopping.{cause_of_scan}
use Rattle.hs_tool.specs.declared.scan.ScanFault.{ScanFault}
use Rattle.hs_tool.specs.declared.scan.ScanFault.TheVariants.{Absent, Store, Write, Limit, Memory}

-- ---- the list

-- the database of a list that was loaded runs its patterns
pub runs_loaded : {kind : ListKind} {told : Told} {loaded : Loaded} → (is : IsLoaded kind told loaded) → RunsPatterns loaded.database is.patterns
runs_loaded is = record { plan = is.plan; patterns = is.is_plan.patterns; is_database = is.runs }

-- ---- a stream that stands behind a file

-- what was written of some lines, and then what waited and more
behind : (written waits lines more : List ℕ) → written ++ waits ≡ lines → written ++ (waits ++ more) ≡ lines ++ more
behind written waits lines more whole = sym (append_assoc written waits more) ∙ ap (λ x. x ++ more) whole

begun-part : (db : Compiled) (told : Told) (P : List Pattern) (a : Stream) (p q : Option (List ℕ)) →
    Stands db P [] a → IsFilePartlyScanned db told a (λ text. TookPrefix p q text) → HasBegun told P p q
begun-part db told P a p q stands scan =
    let moves = write-moves db P [] scan.bytes a scan.new scan.scanned.pairs stands scan.scanned.writes.writes in
    Answers.in_reports scan.bytes scan.scanned.pairs scan.begins moves.reports scan.scanned.passes

-- the text of the match of the file, from the reports
whole-text : (db : Compiled) (P : List Pattern) (a b : Stream) (bytes : List ℕ) (new last : List Pair) →
    Stands db P [] a → Writes db a b bytes new → Closes db b last → IsMatchText P bytes (report_lines new ++ report_lines last ++ end_line (length bytes))
whole-text db P a b bytes new last stands writes ends =
    let moves = write-moves db P [] bytes a b new stands writes in
    record { new = new; last = last; by_bytes = moves.reports; by_end = end-last db P bytes b last moves.stands ends; whole = refl }

-- behind what was written of the first lines, what waited, the last ones and that of the length are the rest of that text
rest-text : (lines last : List ℕ) (count size : ℕ) → count ≡ size → lines ++ (last ++ end_line count) ≡ lines ++ last ++ end_line size
rest-text lines last count size same = sym (append_assoc lines last (end_line count)) ∙ ap (λ n. lines ++ last ++ end_line n) same

has_written : (db : Compiled) (told : Told) (P : List Pattern) (a b : Stream) (p q r : Option (List ℕ)) (f g h : ℕ) (waits : List ℕ) →
    Stands db P [] a → IsFileScanned db told a b (λ text. IsPassedOn p q f g [] waits text) →
    IsClosed db b (λ text. IsSent q r g h (waits ++ (text ++ end_line (offset_of b)))) → HasWritten told P p r
has_written db told P a b p q r f g h waits stands scan closed =
    let passed = scan.scanned.passes.passed in
    let lines = report_lines scan.scanned.pairs in
    let last = report_lines closed.pairs in
    record {
      bytes = scan.bytes;
      file = scan.file;
      within = scan.within;
      text = lines ++ last ++ end_line (length scan.bytes);
      match = whole-text db P a b scan.bytes scan.scanned.pairs closed.pairs stands scan.scanned.writes.writes closed.ends;
      taken =
          subst (λ t. Took p r t)
          (behind passed.written waits lines (last ++ end_line (offset_of b)) passed.whole ∙ rest-text lines last (offset_of b) (length scan.bytes) scan.length)
          (Took-append p q r passed.written (waits ++ (last ++ end_line (offset_of b))) passed.taken closed.passes.taken);
    }

begun-whole : (db : Compiled) (told : Told) (P : List Pattern) (a b : Stream) (p q r : Option (List ℕ)) (f g h : ℕ) (waits : List ℕ) →
    Stands db P [] a → IsFileScanned db told a b (λ text. IsPassedOn p q f g [] waits text) →
    IsClosed db b (λ text. IsCutShort q r g h (waits ++ (text ++ end_line (offset_of b)))) → HasBegun told P p r
begun-whole db told P a b p q r f g h waits stands scan closed =
    let passed = scan.scanned.passes.passed in
    let lines = report_lines scan.scanned.pairs in
    let last = report_lines closed.pairs in
    Answers.in_text scan.bytes (lines ++ last ++ end_line (length scan.bytes)) scan.file
    (whole-text db P a b scan.bytes scan.scanned.pairs closed.pairs stands scan.scanned.writes.writes closed.ends)
    (subst (λ t. TookPrefix p r t)
    (behind passed.written waits lines (last ++ end_line (offset_of b)) passed.whole ∙ rest-text lines last (offset_of b) (length scan.bytes) scan.length)
    (TookPrefix-after p q r passed.written (waits ++ (last ++ end_line (offset_of b))) passed.taken closed.passes.cut))

-- ---- the endings of a scan

scan_ends : (kind : ListKind) (list file : List ℕ) (before now : Outside) (entries : List ListedEntry) (P : List Pattern) (fault : ScanFault) →
    HasList kind (before.told list) entries P → HasBegun (before.told file) P before.out now.out →
    Interrupts fault (before.told file) before.stored now.stored before.sunk now.sunk → ScanEnds kind list file before now (Some (cause_of_scan file fault))
scan_ends kind list file before now entries P Absent has begun stops = Answers.no_file entries P has stops.0 begun (record { store = stops.1; sink = stops.2 })
scan_ends kind list file before now entries P Store has begun stops = Answers.file_failed entries P has begun stops.1
scan_ends kind list file before now entries P Write has begun stops = Answers.sink_failed entries P has begun stops.2
scan_ends kind list file before now entries P Limit has begun stops = Answers.long_file entries P has stops.0 begun (record { store = stops.1; sink = stops.2 })
scan_ends kind list file before now entries P Memory has begun stops = absurd stops

-- what holds since the list was loaded holds since the start
pub ends_since : (kind : ListKind) (list file : List ℕ) (told told' : List ℕ → Told) (stored stored' : ℕ) (out : Option (List ℕ)) (sunk : ℕ) (now : Outside) (outcome : Option Cause) → told' ≡ told → stored' ≡ stored →
    ScanEnds kind list file (record { told = told'; stored = stored'; out = out; sunk = sunk }) now outcome →
    ScanEnds kind list file (record { told = told; stored = stored; out = out; sunk = sunk }) now outcome
ends_since kind list file told told' stored stored' out sunk now outcome same_told same_stored ends =
    subst (λ n. ScanEnds kind list file (record { told = told; stored = n; out = out; sunk = sunk }) now outcome) same_stored
    (subst (λ t. ScanEnds kind list file (record { told = t; stored = stored'; out = out; sunk = sunk }) now outcome) same_told ends)

-- by the same cause
pub ends_as : (kind : ListKind) (list file : List ℕ) (before now : Outside) {cause other : Cause} → cause ≡ other → ScanEnds kind list file before now (Some cause) → ScanEnds kind list file before now (Some other)
ends_as kind list file before now same ends = subst (λ x. ScanEnds kind list file before now (Some x)) same ends

-- ---- a scan

-- the scan of the file stopped
pub scan_stops : (db : Compiled) (kind : ListKind) (list file : List ℕ) (before now : Outside) (entries : List ListedEntry) (P : List Pattern) (a : Stream) (waited : List ℕ) (fault : ScanFault) →
    waited ≡ [] → HasList kind (before.told list) entries P → Stands db P [] a →
    IsFilePartlyScanned db (before.told file) a (λ text. TookPrefix before.out now.out (waited ++ text)) →
    Interrupts fault (before.told file) before.stored now.stored before.sunk now.sunk → ScanEnds kind list file before now (Some (cause_of_scan file fault))
scan_stops db kind list file before now entries P a waited fault nothing has stands part stops =
    scan_ends kind list file before now entries P fault has
    (begun-part db (before.told file) P a before.out now.out stands
    (subst (λ w. IsFilePartlyScanned db (before.told file) a (λ text. TookPrefix before.out now.out (w ++ text))) nothing part))
    stops

-- the file was scanned to its end and the last line written
pub scan_done : (db : Compiled) (kind : ListKind) (list file : List ℕ) (before now : Outside) (entries : List ListedEntry) (P : List Pattern) (a b : Stream) (out : Option (List ℕ)) (sunk : ℕ) (waited waits : List ℕ) →
    waited ≡ [] → HasList kind (before.told list) entries P → Stands db P [] a →
    IsFileScanned db (before.told file) a b (λ text. IsPassedOn before.out out before.sunk sunk waited waits text) →
    IsClosed db b (λ text. IsSent out now.out sunk now.sunk (waits ++ (text ++ end_line (offset_of b)))) →
    now.stored ≡ before.stored → ScanEnds kind list file before now None
scan_done db kind list file before now entries P a b out sunk waited waits nothing has stands scan closed stored =
    Answers.done entries P has
    (has_written db (before.told file) P a b before.out out now.out before.sunk sunk now.sunk waits stands
    (subst (λ w. IsFileScanned db (before.told file) a b (λ text. IsPassedOn before.out out before.sunk sunk w waits text)) nothing scan) closed)
    (record { store = stored; sink = closed.passes.counted ∙ scan.scanned.passes.counted })

-- the file was scanned to its end, and then the sink failed
pub scan_unwritten : (db : Compiled) (kind : ListKind) (list file : List ℕ) (before now : Outside) (entries : List ListedEntry) (P : List Pattern) (a b : Stream) (out : Option (List ℕ)) (sunk : ℕ) (waited waits : List ℕ) →
    waited ≡ [] → HasList kind (before.told list) entries P → Stands db P [] a →
    IsFileScanned db (before.told file) a b (λ text. IsPassedOn before.out out before.sunk sunk waited waits text) →
    IsClosed db b (λ text. IsCutShort out now.out sunk now.sunk (waits ++ (text ++ end_line (offset_of b)))) →
    ScanEnds kind list file before now (Some write)
scan_unwritten db kind list file before now entries P a b out sunk waited waits nothing has stands scan closed =
    Answers.sink_failed entries P has
    (begun-whole db (before.told file) P a b before.out out now.out before.sunk sunk now.sunk waits stands
    (subst (λ w. IsFileScanned db (before.told file) a b (λ text. IsPassedOn before.out out before.sunk sunk w waits text)) nothing scan) closed)
    (Rose-after_same before.sunk sunk now.sunk scan.scanned.passes.counted closed.passes.failed)

-- ---- the words

-- memory was wanted to read them
pub unread-words : (request : Option Request) (before : Outside) (input : Input) → Ends request before before input input (Some memory)
unread-words None before input = record { cause = inr refl; quiet = Took-nothing before.out; none = record { store = refl; sink = refl } }
unread-words (Some (match_file patterns file)) before input = Answers.stopped memory (no_memory_early pattern_file patterns before before (Took-nothing before.out) (record { store = refl; sink = refl }))
unread-words (Some (check_list patterns)) before input = Endings.stopped memory (no_memory_early pattern_file patterns before before (Took-nothing before.out) (record { store = refl; sink = refl }))
unread-words (Some (compile_list patterns database)) before input = Endings.stopped memory (no_memory_early pattern_file patterns before before (Took-nothing before.out) (record { store = refl; sink = refl })) refl
unread-words (Some (tell_database database)) before input = Endings.stopped memory (no_memory_early database_file database before before (Took-nothing before.out) (record { store = refl; sink = refl }))
unread-words (Some (scan_file database file)) before input = Answers.stopped memory (no_memory_early database_file database before before (Took-nothing before.out) (record { store = refl; sink = refl }))
unread-words (Some (run_script database)) before input = Answers.stopped memory (no_memory_early database_file database before before (Took-nothing before.out) (record { store = refl; sink = refl })) refl refl
unread-words (Some (soak seed count)) before input = soaks.no_memory (Took-nothing before.out) (record { store = refl; sink = refl })

-- and no file was put
pub unput-words : (request : Option Request) (left : Option (List ℕ)) (told : List ℕ → Told) → KeepsFiles request left told told
unput-words None left told = refl
unput-words (Some (match_file patterns file)) left told = refl
unput-words (Some (check_list patterns)) left told = refl
unput-words (Some (compile_list patterns database)) left told = inl (λ other apart. refl)
unput-words (Some (tell_database database)) left told = refl
unput-words (Some (scan_file database file)) left told = refl
unput-words (Some (run_script database)) left told = keeps-same refl
unput-words (Some (soak seed count)) left told = refl
