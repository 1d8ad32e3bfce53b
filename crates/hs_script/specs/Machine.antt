-- The machine of streams: what each command answers, and what it makes of its stream and of its file.
use Rattle.std.specs.Prelude.{◌≡◌, ◌≢◌, ◌⊎◌, ℕ, ◌+◌, ◌<◌, ◌≤◌, List, [], ◌++◌, length, Option, None, Some}
use Rattle.hs_base.specs.Lists.{Each, IsMember, IsRising}
use Rattle.hs_base.specs.Offsets.{greatest_offset}
use Rattle.hs_base.specs.Regions.{Plan, region_offset}
use Rattle.hs_base.specs.Told.{Pair, IsNew, IsLast}
use Rattle.hs_kept.specs.KeptRegions.{IsWellKept}
use Rattle.hs_text.specs.declared.commands.Verb.{Verb}
use Rattle.hs_text.specs.declared.commands.Verb.TheVariants as verb
use Rattle.hs_text.specs.declared.reply_lines.Word.{Word}
use Rattle.hs_text.specs.declared.reply_lines.Word.TheVariants as word
use Rattle.hs_text.specs.declared.reply_lines.Reply.{Reply}
use Rattle.hs_text.specs.declared.reply_lines.Reply.TheVariants.{Done, No}
use Rattle.hs_script.specs.Actions.{Action, Open, Write, Cut, Reset, Close, Save, Expand, name_of}
use Rattle.hs_script.specs.Bases.{Basis, Stream, Of, Foreign, File, Untold, state_size, offset_of, patterns_of}
use Rattle.hs_script.specs.Bases.{Refuses, Gives, Puts, Shows}

-- how many streams are open at most
abbrev pub most_streams : ℕ
most_streams = 4096

-- What a command reports, and its reply. A write that is cut short has none.
pub record Answer : Type 0 where
  pub reports : List Pair
  pub reply : Option Reply

-- done, with these reports
abbrev pub done : Verb → List Pair → Option ℕ → Answer
done verb reports number = record { reports = reports; reply = Some (Done verb number) }

-- refused for this reason
abbrev pub refused : Verb → Word → Answer
refused verb word = record { reports = []; reply = Some (No verb word) }

-- reports alone
abbrev pub unanswered : List Pair → Answer
unanswered reports = record { reports = reports; reply = None }

-- reports of identifiers of the list, with ends in these bounds that don't fall
pub record AreWithin (plan : Plan) (low high : ℕ) (reports : List Pair) : Type 0 where
  pub named : Each (λ pair. IsMember pair.id plan.identifiers) reports
  pub bounded : Each (λ pair. (low ≤ pair.to) × (pair.to ≤ high)) reports
  pub rising : IsRising (λ x y. x.to ≤ y.to) reports

-- What bytes may make of a foreign stream's region, and report. No bytes report nothing, and leave it as it is.
pub record GoesOn (plan : Plan) (region v regions : List ℕ) (reports : List Pair) : Type 0 where
  pub well : IsWellKept plan regions
  pub offset : region_offset regions ≡ region_offset region + length v
  pub within : AreWithin plan (region_offset region) (region_offset regions) reports
  pub idle : v ≡ [] → (regions ≡ region) × (reports ≡ [])

-- What the end of a foreign stream may report: ends at its last byte or before it.
abbrev pub MayEnd : Plan → (region : List ℕ) → List Pair → Type 0
MayEnd plan region reports =
    Each (λ pair. region_offset region ≤ pair.to + 1) reports × AreWithin plan 0 (region_offset region) reports

-- What bytes make of a stream, and report.
pub data Takes (basis : Basis) (v : List ℕ) : Stream → Stream → List Pair → Type 0 where
  takes_new : {h : List ℕ} {new : List Pair} →
      IsNew (patterns_of basis) h v new → Takes basis v (Of h) (Of (h ++ v)) new
  takes_foreign : {region regions : List ℕ} {reports : List Pair} →
      GoesOn basis.plan region v regions reports → Takes basis v (Foreign region) (Foreign regions) reports

-- what the end of a stream reports
pub data EndsBy (basis : Basis) : Stream → List Pair → Type 0 where
  ends_last : {h : List ℕ} {last : List Pair} →
      IsLast (patterns_of basis) h last → EndsBy basis (Of h) last
  ends_foreign : {region : List ℕ} {reports : List Pair} →
      MayEnd basis.plan region reports → EndsBy basis (Foreign region) reports

-- A stream is closed, or open. While so many streams are open, and the store shows this at the name of the action's
-- file, the action has this answer on it, and makes it this stream. Want of memory may come wherever a name isn't open
-- yet, and where a stream is saved.
pub data Moves (basis : Basis) (count : ℕ)
    (shown : File) : Option Stream → Action → Answer → Option Stream → Type 0 where
  exists : {name : List ℕ} {s : Stream} →
      Moves basis count shown (Some s) (Open name) (refused verb.Open word.Exists) (Some s)
  full : {name : List ℕ} →
      most_streams ≤ count →
      Moves basis count shown None (Open name) (refused verb.Open word.Full) None
  memory : {name : List ℕ} → Moves basis count shown None (Open name) (refused verb.Open word.Memory) None
  opened : {name : List ℕ} →
      count < most_streams →
      Moves basis count shown None (Open name) (done verb.Open [] None) (Some (Of []))
  write_unknown : {name v : List ℕ} →
      Moves basis count shown None (Write name v) (refused verb.Write word.Unknown) None
  too_long : {name v : List ℕ} {s : Stream} →
      greatest_offset < offset_of s + length v →
      Moves basis count shown (Some s) (Write name v) (refused verb.Write word.Length) (Some s)
  written : {name v : List ℕ} {s t : Stream} {reports : List Pair} →
      offset_of s + length v ≤ greatest_offset →
      Takes basis v s t reports →
      Moves basis count shown (Some s) (Write name v) (done verb.Write reports (Some (length v))) (Some t)
  cut_unknown : {name v : List ℕ} {all : ℕ} → Moves basis count shown None (Cut name all v) (unanswered []) None
  cut_too_long : {name v : List ℕ} {all : ℕ} {s : Stream} →
      greatest_offset < offset_of s + all →
      Moves basis count shown (Some s) (Cut name all v) (unanswered []) (Some s)
  cut_written : {name v : List ℕ} {all : ℕ} {s t : Stream} {reports : List Pair} →
      offset_of s + all ≤ greatest_offset →
      Takes basis v s t reports →
      Moves basis count shown (Some s) (Cut name all v) (unanswered reports) (Some t)
  reset_unknown : {name : List ℕ} → Moves basis count shown None (Reset name) (refused verb.Reset word.Unknown) None
  reset : {name : List ℕ} {s : Stream} {last : List Pair} →
      EndsBy basis s last →
      Moves basis count shown (Some s) (Reset name) (done verb.Reset last None) (Some (Of []))
  close_unknown : {name : List ℕ} → Moves basis count shown None (Close name) (refused verb.Close word.Unknown) None
  closed : {name : List ℕ} {s : Stream} {last : List Pair} →
      EndsBy basis s last →
      Moves basis count shown (Some s) (Close name) (done verb.Close last None) None
  save_unknown : {name file : List ℕ} →
      Moves basis count shown None (Save name file) (refused verb.Save word.Unknown) None
  save_memory : {name file : List ℕ} {s : Stream} →
      Moves basis count shown (Some s) (Save name file) (refused verb.Save word.Memory) (Some s)
  saved : {name file : List ℕ} {s : Stream} →
      Moves basis count shown (Some s) (Save name file) (done verb.Save [] (Some (state_size basis))) (Some s)
  expand_exists : {name file : List ℕ} {s : Stream} →
      Moves basis count shown (Some s) (Expand name file) (refused verb.Expand word.Exists) (Some s)
  expand_full : {name file : List ℕ} →
      most_streams ≤ count →
      Moves basis count shown None (Expand name file) (refused verb.Expand word.Full) None
  expand_memory : {name file : List ℕ} →
      Moves basis count shown None (Expand name file) (refused verb.Expand word.Memory) None
  expand_refused : {name file : List ℕ} {w : Word} →
      count < most_streams →
      Refuses basis shown w →
      Moves basis count shown None (Expand name file) (refused verb.Expand w) None
  expanded : {name file : List ℕ} {s : Stream} →
      count < most_streams →
      Gives basis shown s →
      Moves basis count shown None (Expand name file) (done verb.Expand [] None) (Some s)

-- the streams by name, how many are open, and what is told of each name of a file
pub record Machine : Type 0 where
  pub stream : List ℕ → Option Stream
  pub count : ℕ
  pub file : List ℕ → File

-- No stream is open, and this is told of files.
abbrev pub start : (List ℕ → File) → Machine
start file = record { stream = λ name. None; count = 0; file = file }

-- 1 for an open stream
abbrev pub opens : Option Stream → ℕ
opens None = 0
opens (Some s) = 1

-- what an action is shown of the files: an expansion its file, and the others nothing
abbrev pub IsShown : (List ℕ → File) → Action → File → Type 0
IsShown files (Open name) shown = shown ≡ Untold
IsShown files (Write name v) shown = shown ≡ Untold
IsShown files (Cut name all v) shown = shown ≡ Untold
IsShown files (Reset name) shown = shown ≡ Untold
IsShown files (Close name) shown = shown ≡ Untold
IsShown files (Save name file) shown = shown ≡ Untold
IsShown files (Expand name file) shown = Shows (files file) shown

-- a file and the stream that was put there
pub record Put : Type 0 where
  pub file : List ℕ
  pub stream : Stream

-- a save puts the stream into the file, where it is done
abbrev pub put_where_done : List ℕ → Stream → Option Reply → Option Put
put_where_done file s None = None
put_where_done file s (Some (Done verb number)) = Some (record { file = file; stream = s })
put_where_done file s (Some (No verb word)) = None

-- what an action puts, if anything
abbrev pub put_by : Option Stream → Action → Option Reply → Option Put
put_by None action reply = None
put_by (Some s) (Open name) reply = None
put_by (Some s) (Write name v) reply = None
put_by (Some s) (Cut name all v) reply = None
put_by (Some s) (Reset name) reply = None
put_by (Some s) (Close name) reply = None
put_by (Some s) (Save name file) reply = put_where_done file s reply
put_by (Some s) (Expand name file) reply = None

-- The stream was put into the file, and what is told of all other names is as it was.
pub record PutsFile (basis : Basis) (before after : List ℕ → File) (put : Put) : Type 0 where
  pub here : Puts basis put.stream (before put.file) (after put.file)
  pub others : (name : List ℕ) → name ≢ put.file → after name ≡ before name

-- What is told of files behind an action. With what it puts a store may stop telling of any.
abbrev pub LeavesFiles : Basis → (before after : List ℕ → File) → Option Put → Type 0
LeavesFiles basis before after None = (name : List ℕ) → after name ≡ before name
LeavesFiles basis before after (Some put) = PutsFile basis before after put ⊎ ((name : List ℕ) → after name ≡ Untold)

-- One command: only the stream of its name moves, and only the file of its name is put.
pub record Steps (basis : Basis) (before : Machine) (action : Action) (answer : Answer) (after : Machine) : Type 0 where
  pub shown : File
  pub shows : IsShown before.file action shown
  pub moves :
      Moves basis before.count shown (before.stream (name_of action)) action answer (after.stream (name_of action))
  pub others : (name : List ℕ) → name ≢ name_of action → after.stream name ≡ before.stream name
  pub counted :
      after.count + opens (before.stream (name_of action)) ≡ before.count + opens (after.stream (name_of action))
  pub files :
      LeavesFiles basis before.file after.file (put_by (before.stream (name_of action)) action answer.reply)
