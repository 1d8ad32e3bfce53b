-- What holds of scripts, and of all runs of the machine.
use Rattle.std.specs.Prelude.{◌≡◌, ◌≢◌, ◌⊎◌, ℕ, ◌+◌, ◌<◌, ◌≤◌, ◌↔◌, Bool, true, false, List, [], ◌∷◌, ◌++◌, length}
use Rattle.std.specs.Prelude.{map, bytes_eq, Option, None, Some, if◌then◌else◌}
use Rattle.hs_base.specs.Lists.{Each, IsMember, IsRising}
use Rattle.hs_base.specs.Offsets.{greatest_offset}
use Rattle.hs_text.specs.declared.commands.Verb.TheVariants as verb
use Rattle.hs_text.specs.declared.reply_lines.Word.{Word}
use Rattle.hs_text.specs.declared.reply_lines.Word.TheVariants as word
use Rattle.hs_text.specs.declared.reply_lines.Reply.{Reply}
use Rattle.hs_text.specs.declared.reply_lines.Reply.TheVariants.{Done, No}
use Rattle.hs_text.specs.declared.reply_lines.ScriptFault.{ScriptFault}
use Rattle.hs_text.specs.declared.reply_lines.ScriptFault.TheVariants as fault
use Rattle.hs_base.specs.Assertions.{line_feed}
use Rattle.hs_script.specs.Actions.{Action, Write, Cut, Reset, Close, Save, Expand, name_of}
use Rattle.hs_script.specs.Scripts.{IsScript, Goes, Ends, written_by}
use Rattle.hs_script.specs.Bases.{Basis, Stream, Of, Foreign, File, Untold, Gives, offset_of, state_size}
use Rattle.hs_script.specs.Machine.{most_streams, Answer, Moves, Machine, start, Steps}
use Rattle.hs_script.specs.Runs.{IsRun, none, more, run_text, IsRunText}

-- the word of memory, and that of too many streams
abbrev pub is_memory : Word → Bool
is_memory word.Exists = false
is_memory word.Unknown = false
is_memory word.Full = false
is_memory word.Length = false
is_memory word.Absent = false
is_memory word.Form = false
is_memory word.Version = false
is_memory word.Database = false
is_memory word.Memory = true

abbrev pub is_full : Word → Bool
is_full word.Exists = false
is_full word.Unknown = false
is_full word.Full = true
is_full word.Length = false
is_full word.Absent = false
is_full word.Form = false
is_full word.Version = false
is_full word.Database = false
is_full word.Memory = false

-- it is a refusal by such a word
abbrev pub is_refused : (Word → Bool) → Option Reply → Bool
is_refused test None = false
is_refused test (Some (Done verb number)) = false
is_refused test (Some (No verb word)) = test word

-- whether it was refused for want of memory
abbrev pub lacks_memory : Answer → Bool
lacks_memory answer = is_refused is_memory answer.reply

-- it was refused neither for want of memory nor for the number of open streams
pub record IsOwn (answer : Answer) : Type 0 where
  pub memory : lacks_memory answer ≡ false
  pub full : is_refused is_full answer.reply ≡ false

-- the same actions and ending
pub record IsSameScript (actions actions' : List Action) (ending ending' : Option ScriptFault) : Type 0 where
  pub same_actions : actions ≡ actions'
  pub same_ending : ending ≡ ending'

-- Bytes are a script in at most one way.
abbrev pub IsScriptOnce : Type 0
IsScriptOnce =
    (bytes : List ℕ) (xs ys : List Action) (e f : Option ScriptFault) →
    IsScript 1 bytes xs e →
    IsScript 1 bytes ys f →
    IsSameScript xs ys e f

-- The bytes are a script, whose command lines are counted from this number on.
pub record IsSomeScript (number : ℕ) (bytes : List ℕ) : Type 0 where
  pub actions : List Action
  pub ending : Option ScriptFault
  pub script : IsScript number bytes actions ending

-- Any bytes are a script.
abbrev pub IsAlwaysScript : Type 0
IsAlwaysScript = (bytes : List ℕ) → IsSomeScript 1 bytes

-- What a write takes of the bytes behind its line, in the words of the form: its payload and one line feed; the line
-- feed may be missing at the end of the bytes; any other byte is a fault of this line; and too few bytes cut the write
-- short.
pub record TakesPayload (number : ℕ) (name payload behind : List ℕ) : Type 0 where
  pub with_feed :
      written_by number name (length payload) (payload ++ line_feed ∷ behind) ≡ Goes (Write name payload) behind
  pub at_end : written_by number name (length payload) payload ≡ Goes (Write name payload) []
  pub with_other : (b : ℕ) → b ≢ line_feed →
      written_by number name (length payload) (payload ++ b ∷ behind)
      ≡ Ends (Write name payload ∷ []) (fault.Script number)
  pub cut_short : (count : ℕ) → length payload < count →
      written_by number name count payload ≡ Ends (Cut name count payload ∷ []) (fault.Truncated number)

-- Each write takes its payload so.
abbrev pub AlwaysTakesPayload : Type 0
AlwaysTakesPayload = (number : ℕ) (name payload behind : List ℕ) → TakesPayload number name payload behind

-- what the actions of a run are shown of the files
abbrev pub shown_in : {basis : Basis} {m n : Machine} {actions : List Action} {answers : List Answer} →
    IsRun basis m actions answers n → List File
shown_in none = []
shown_in (more s r) = s.shown ∷ shown_in r

-- no foreign stream is made of the file
abbrev pub MakesNoForeign : Basis → File → Type 0
MakesNoForeign basis file = (region : List ℕ) → Gives basis file (Foreign region) → ⊥

-- Files are told of behind a run, so they were throughout.
abbrev pub AreTold : Machine → Type 0
AreTold m = (name : List ℕ) → m.file name ≢ Untold

-- Two runs over the same bytes and files, which are told of to the end, that make no foreign stream and lack memory at
-- the same commands have the same text.
abbrev pub IsTextOnce : Type 0
IsTextOnce =
    (basis : Basis) (files : List ℕ → File) (bytes : List ℕ) (xs ys : List Answer) (text text' : List ℕ)
    (p : IsRunText basis files bytes xs text) (q : IsRunText basis files bytes ys text') →
    AreTold p.after →
    AreTold q.after →
    Each (MakesNoForeign basis) (shown_in p.run) →
    map lacks_memory xs ≡ map lacks_memory ys →
    text ≡ text'

-- the actions on the stream of a name, in order
abbrev pub actions_on : List ℕ → List Action → List Action
actions_on name [] = []
actions_on name (action ∷ actions) =
    if bytes_eq (name_of action) name then action ∷ actions_on name actions else actions_on name actions

-- their answers
abbrev pub answers_on : List ℕ → List Action → List Answer → List Answer
answers_on name [] answers = []
answers_on name (action ∷ actions) [] = []
answers_on name (action ∷ actions) (answer ∷ answers) =
    if bytes_eq (name_of action) name then answer ∷ answers_on name actions answers else answers_on name actions answers

-- the lines of a name in a run
abbrev pub lines_of : List ℕ → List Action → List Answer → List ℕ
lines_of name actions answers = run_text (actions_on name actions) (answers_on name actions answers)

-- The answers and the lines of a name are the same in both runs.
pub record IsAlikeOn (name : List ℕ) (actions actions' : List Action) (xs ys : List Answer) : Type 0 where
  pub answers : answers_on name actions xs ≡ answers_on name actions' ys
  pub lines : lines_of name actions xs ≡ lines_of name actions' ys

-- what the actions on a name are shown of the files
abbrev pub shown_on : {basis : Basis} {m n : Machine} {actions : List Action} {answers : List Answer} →
    List ℕ → IsRun basis m actions answers n → List File
shown_on name none = []
shown_on name (more {action = action} s r) =
    if bytes_eq (name_of action) name then s.shown ∷ shown_on name r else shown_on name r

-- Streams see nothing of each other: in two runs with the same actions on a name, none of which was refused for want of
-- memory or for the number of open streams, the lines of that name are the same, whatever the other actions are. The
-- expansions among these actions are shown the same in both, and none makes a foreign stream.
abbrev pub IsIsolated : Type 0
IsIsolated =
    (basis : Basis) (files files' : List ℕ → File) (name : List ℕ) (actions actions' : List Action)
    (xs ys : List Answer) (m n : Machine)
    (r : IsRun basis (start files) actions xs m) (q : IsRun basis (start files') actions' ys n) →
    actions_on name actions ≡ actions_on name actions' →
    shown_on name r ≡ shown_on name q →
    Each (MakesNoForeign basis) (shown_on name r) →
    Each IsOwn (answers_on name actions xs) →
    Each IsOwn (answers_on name actions' ys) →
    IsAlikeOn name actions actions' xs ys

-- What is always done to an open stream, with its reply.
pub data IsSure (s : Stream) : Action → Reply → Type 0 where
  sure_write : {name v : List ℕ} →
      offset_of s + length v ≤ greatest_offset →
      IsSure s (Write name v) (Done verb.Write (Some (length v)))
  sure_reset : {name : List ℕ} → IsSure s (Reset name) (Done verb.Reset None)
  sure_close : {name : List ℕ} → IsSure s (Close name) (Done verb.Close None)

-- What is done but for want of memory to a stream that is open or not, where the store shows this, with its reply and
-- the word.
pub data IsSureByMemory (basis : Basis) (shown : File) : Option Stream → Action → Reply → Reply → Type 0 where
  sure_save : {name file : List ℕ} {s : Stream} →
      IsSureByMemory basis shown (Some s) (Save name file)
      (Done verb.Save (Some (state_size basis))) (No verb.Save word.Memory)
  sure_expand : {name file : List ℕ} {s : Stream} →
      Gives basis shown s →
      IsSureByMemory basis shown None (Expand name file)
      (Done verb.Expand None) (No verb.Expand word.Memory)

-- a run through an action: what the machine did before it, at it, and behind it
pub record IsThrough
    (basis : Basis) (from : Machine) (front : List Action) (action : Action) (back : List Action)
    (answers : List Answer) (after : Machine) : Type 0 where
  pub first : List Answer
  pub answer : Answer
  pub others : List Answer
  pub before : Machine
  pub behind : Machine
  pub whole : answers ≡ first ++ answer ∷ others
  pub leads : IsRun basis from front first before
  pub steps : Steps basis before action answer behind
  pub follows : IsRun basis behind back others after
  -- a write below the length limit, a reset and a close of an open stream are done
  pub sure : (s : Stream) (reply : Reply) →
      before.stream (name_of action) ≡ Some s →
      IsSure s action reply →
      answer.reply ≡ Some reply
  -- A save of an open stream is done, or lacks memory. So is the expansion of a file of which a stream can be made,
  -- where fewer streams are open than may be.
  pub sure_by_memory : (reply no : Reply) →
      before.count < most_streams →
      IsSureByMemory basis steps.shown (before.stream (name_of action)) action reply no →
      (answer.reply ≡ Some reply) ⊎ (answer.reply ≡ Some no)

-- In every run a write below the length limit, a reset and a close of an open stream are done, and but for want of
-- memory a save of an open one, and an expansion of a file of which a stream can be made.
abbrev pub IsComplete : Type 0
IsComplete =
    (basis : Basis) (from : Machine) (front back : List Action) (action : Action) (answers : List Answer)
    (after : Machine) →
    IsRun basis from (front ++ action ∷ back) answers after →
    IsThrough basis from front action back answers after

-- No more streams are open than may be.
abbrev pub IsBounded : Type 0
IsBounded =
    (basis : Basis) (files : List ℕ → File) (actions : List Action) (answers : List Answer) (after : Machine) →
    IsRun basis (start files) actions answers after →
    after.count ≤ most_streams

-- two answers in place of one, and the streams behind them
pub record IsInTwo (x y z : Answer) (j k : Option Stream) : Type 0 where
  pub reports : z.reports ≡ x.reports ++ y.reports
  pub streams : j ≡ k

-- Where a write is cut into two, both together report what it reports, and the stream behind them is the same.
abbrev pub IsCutAnywhere : Type 0
IsCutAnywhere =
    (basis : Basis) (c d e : ℕ) (a b f : File) (name h v w : List ℕ) (x y z : Answer) (i j k : Option Stream) →
    length h + length (v ++ w) ≤ greatest_offset →
    Moves basis c a (Some (Of h)) (Write name v) x i →
    Moves basis d b i (Write name w) y j →
    Moves basis e f (Some (Of h)) (Write name (v ++ w)) z k →
    IsInTwo x y z j k

-- the names of these streams are just those that are open, each once
pub record AreOpen (m : Machine) (names : List (List ℕ)) : Type 0 where
  pub each : (name : List ℕ) → IsMember name names ↔ (m.stream name ≢ None)
  pub once : IsRising (λ x y. x ≢ y) names
  pub counted : length names ≡ m.count

-- a machine with the names of its open streams
pub record IsCounted (m : Machine) : Type 0 where
  pub names : List (List ℕ)
  pub are_open : AreOpen m names

-- The count of a machine is the number of its open streams.
abbrev pub CountsOpen : Type 0
CountsOpen =
    (basis : Basis) (files : List ℕ → File) (actions : List Action) (answers : List Answer) (after : Machine) →
    IsRun basis (start files) actions answers after →
    IsCounted after
