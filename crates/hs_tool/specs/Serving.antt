-- What a script leaves that was run as it came: what was taken of it, and the text that is due.
use Rattle.std.specs.Prelude.{◌≡◌, ◌≢◌, ℕ, suc, ◌<◌, ◌≤◌, ◌⊎◌, Bool, true, false, List, [], ◌∷◌, ◌++◌, length, Option}
use Rattle.std.specs.Prelude.{None, Some, Result, Ok, Err}
use Rattle.hs_base.specs.Lists.{Each}
use Rattle.hs_base.specs.Assertions.{line_feed}
use Rattle.hs_outside.specs.Counts.{Rose}
use Rattle.hs_outside.specs.Source.{Gave, IsAtEnd}
use Rattle.hs_outside.specs.Sink.{Took, TookPrefix}
use Rattle.hs_outside.specs.Store.{Told}
use Rattle.hs_text.specs.declared.reply_lines.ScriptFault.{ScriptFault}
use Rattle.hs_text.specs.Commands.{Order, IsCommand}
use Rattle.hs_text.specs.Commands as order
use Rattle.hs_compile.specs.Databases.{Compiled}
use Rattle.hs_script.specs.Actions.{Action, Write, Cut}
use Rattle.hs_script.specs.Scripts.{IsScript}
use Rattle.hs_script.specs.Bases.{Basis}
use Rattle.hs_script.specs.Machine.{Answer, Machine, start}
use Rattle.hs_script.specs.Runs.{IsRun, run_text, IsRunText}
use Rattle.hs_reader.specs.declared.fault.Break.TheVariants as stop
use Rattle.hs_tool.specs.declared.session.fault.ScriptStop.{ScriptStop}
use Rattle.hs_tool.specs.declared.session.fault.ScriptStop.TheVariants.{Fault, Broken, Store, Memory}
use Rattle.hs_reader.specs.Reading.{MayCome, most_script}
use Rattle.hs_reader.specs.Breaks.{NoFault, is_write}
use Rattle.hs_tool.specs.OpenStreams.{RunsBasis, FollowsFile, files_of}
use Rattle.hs_tool.specs.SavedFiles.{IsFileOrder}

-- The text is that of a run over these bytes, which end with this fault, if with any; the files are then those that
-- the store tells of.
pub record HasEnding (basis : Basis) (told tells : List ℕ → Told) (bytes : List ℕ) (answers : List Answer)
    (text : List ℕ) (ending : Option ScriptFault) : Type 0 where
  pub run : IsRunText basis (files_of told) bytes answers text
  pub is : run.ending ≡ ending
  pub files : (name : List ℕ) → FollowsFile basis (run.after.file name) (tells name)

-- These bytes were taken of the script, and the text is that of a run over it, whatever may stand behind them.
pub record Finished (db : Compiled) (told tells : List ℕ → Told) (taken : List ℕ) (ended : Bool)
    (ending : Option ScriptFault) (text : List ℕ) : Type 0 where
  pub answers : List Answer
  pub runs : (basis : Basis) (rest : List ℕ) →
      RunsBasis db basis →
      MayCome ended rest →
      HasEnding basis told tells (taken ++ rest) answers text ending

-- The beginning of a command, with the actions that it makes so far: some of its line, or its line and some of what it
-- writes, or all of that.
pub data IsPart (bytes : List ℕ) : List Action → Type 0 where
  in_line : Each (λ b. b ≢ line_feed) bytes → IsPart bytes []
  in_payload : (line : List ℕ) {name came : List ℕ} {count : ℕ} →
      IsCommand line (order.Write name count) →
      length came < count →
      bytes ≡ line ++ line_feed ∷ came →
      IsPart bytes (Cut name count came ∷ [])
  behind_payload : (line : List ℕ) {name came : List ℕ} →
      IsCommand line (order.Write name (length came)) →
      bytes ≡ line ++ line_feed ∷ came →
      IsPart bytes (Write name came ∷ [])

-- the machine goes through these actions from the start
pub record RunsThrough (basis : Basis) (told : List ℕ → Told) (actions : List Action) (answers : List Answer) : Type 0
  where
    pub after : Machine
    pub run : IsRun basis (start (files_of told)) actions answers after

-- These bytes were taken of the script, of which some at the end weren't looked at. The text has all lines of each
-- command that is whole before these, and the reports of what came of the next one.
pub record Begun (db : Compiled) (told : List ℕ → Told) (taken unread : List ℕ) (text : List ℕ) : Type 0 where
  pub front : List ℕ
  pub rest : List ℕ
  pub split : taken ≡ front ++ (rest ++ unread)
  pub actions : List Action
  pub more : List Action
  pub answers : List Answer
  pub whole : (next : List ℕ) (following : List Action) (ending : Option ScriptFault) →
      IsScript (suc (length actions)) next following ending → IsScript 1 (front ++ next) (actions ++ following) ending
  pub part : IsPart rest more
  pub runs : (basis : Basis) → RunsBasis db basis → RunsThrough basis told (actions ++ more) answers
  pub is : text ≡ run_text (actions ++ more) answers

-- The bytes are a whole line, which is a command that names a file; its line feed may be missing at the end.
pub data IsFileLine (bytes : List ℕ) : Type 0 where
  fed : (line : List ℕ) {order : Order} →
      IsCommand line order →
      IsFileOrder order →
      bytes ≡ line ++ line_feed ∷ [] →
      IsFileLine bytes
  unfed : {order : Order} → IsCommand bytes order → IsFileOrder order → IsFileLine bytes

-- These bytes were taken of the script, of which some at the end weren't looked at. The text has all lines of each
-- command before the line at which the store failed.
pub record Unkept (db : Compiled) (told : List ℕ → Told) (taken unread : List ℕ) (text : List ℕ) : Type 0 where
  pub front : List ℕ
  pub rest : List ℕ
  pub split : taken ≡ front ++ (rest ++ unread)
  pub actions : List Action
  pub answers : List Answer
  pub whole : (next : List ℕ) (following : List Action) (ending : Option ScriptFault) →
      IsScript (suc (length actions)) next following ending → IsScript 1 (front ++ next) (actions ++ following) ending
  pub line : IsFileLine rest
  pub runs : (basis : Basis) → RunsBasis db basis → RunsThrough basis told actions answers
  pub is : text ≡ run_text actions answers

-- the text so far: of a script that was begun, or that the store broke off, or of all of it
pub data SoFar (db : Compiled) (told tells : List ℕ → Told) (taken : List ℕ) (left : Option (List ℕ))
    (text : List ℕ) : Type 0 where
  begun : (unread : List ℕ) →
      Begun db told taken unread text →
      SoFar db told tells taken left text
  unkept : (unread : List ℕ) →
      Unkept db told taken unread text →
      SoFar db told tells taken left text
  over : (ended : Bool) (ending : Option ScriptFault) →
      (ended ≡ true → IsAtEnd left) →
      Finished db told tells taken ended ending text →
      SoFar db told tells taken left text

-- How a script ends, with what was left of the source before and now, and what the store told and tells; the text is
-- written, or a beginning of it.
pub data ScriptEnds (db : Compiled) (told tells : List ℕ → Told) (before now : Option (List ℕ))
    (IsWritten IsCut : List ℕ → Type 0) : Result (Unit {0}) ScriptStop → Type 0 where
  complete : (taken text : List ℕ) →
      Gave before now taken →
      IsAtEnd now →
      Finished db told tells taken true None text →
      IsWritten text →
      ScriptEnds db told tells before now IsWritten IsCut (Ok tt)
  faulty : (fault : ScriptFault) (taken text : List ℕ) (ended : Bool) →
      Gave before now taken →
      (ended ≡ true → IsAtEnd now) →
      Finished db told tells taken ended (Some fault) text →
      IsWritten text →
      ScriptEnds db told tells before now IsWritten IsCut (Err (Fault fault))
  unread : (taken text : List ℕ) →
      Gave before now taken →
      Begun db told taken [] text →
      IsWritten text →
      ScriptEnds db told tells before now IsWritten IsCut (Err (Broken stop.Read))
  too_long : (taken text : List ℕ) →
      Gave before now taken →
      most_script ≤ length taken →
      Begun db told taken [] text →
      IsWritten text →
      ScriptEnds db told tells before now IsWritten IsCut (Err (Broken stop.Limit))
  unwritten : (taken text : List ℕ) →
      Gave before now taken →
      SoFar db told tells taken now text →
      IsCut text →
      ScriptEnds db told tells before now IsWritten IsCut (Err (Broken stop.Write))
  unstored : (taken ahead text : List ℕ) →
      Gave before now taken →
      Unkept db told taken ahead text →
      IsWritten text →
      ScriptEnds db told tells before now IsWritten IsCut (Err Store)
  no_memory :
      Gave before now [] →
      tells ≡ told →
      IsWritten [] →
      ScriptEnds db told tells before now IsWritten IsCut (Err Memory)

-- whether the sink failed
abbrev pub lost_of : Result (Unit {0}) ScriptStop → Bool
lost_of (Ok u) = false
lost_of (Err (Fault fault)) = false
lost_of (Err (Broken cause)) = is_write cause
lost_of (Err Store) = false
lost_of (Err Memory) = false

-- What waits was written, unless the sink had failed before.
pub data Flushes (ended result : Result (Unit {0}) ScriptStop) (taken takes : Option (List ℕ)) (waited : List ℕ)
    (sunk sinks : ℕ) : Type 0 where
  was_lost :
      lost_of ended ≡ true →
      result ≡ ended →
      takes ≡ taken →
      sinks ≡ sunk →
      Flushes ended result taken takes waited sunk sinks
  flushed :
      lost_of ended ≡ false →
      result ≡ ended →
      Took taken takes waited →
      sinks ≡ sunk →
      Flushes ended result taken takes waited sunk sinks
  now_lost :
      lost_of ended ≡ false →
      result ≡ Err (Broken stop.Write) →
      TookPrefix taken takes waited →
      Rose sunk sinks →
      Flushes ended result taken takes waited sunk sinks

-- What the source and the sink counted at the end. Where the sink failed, the source may have failed before.
abbrev pub EndCounts : ℕ → ℕ → ℕ → ℕ → Result (Unit {0}) ScriptStop → Type 0
EndCounts read reads sunk sinks (Ok u) = NoFault read reads sunk sinks
EndCounts read reads sunk sinks (Err (Fault fault)) = NoFault read reads sunk sinks
EndCounts read reads sunk sinks (Err (Broken stop.Read)) = Rose read reads × (sinks ≡ sunk)
EndCounts read reads sunk sinks (Err (Broken stop.Limit)) = NoFault read reads sunk sinks
EndCounts read reads sunk sinks (Err (Broken stop.Write)) = ((reads ≡ read) ⊎ Rose read reads) × Rose sunk sinks
EndCounts read reads sunk sinks (Err Store) = NoFault read reads sunk sinks
EndCounts read reads sunk sinks (Err Memory) = NoFault read reads sunk sinks

-- What the store counted at the end. Where the sink failed, the store may have failed before.
abbrev pub EndStored : ℕ → ℕ → Result (Unit {0}) ScriptStop → Type 0
EndStored stored storeds (Ok u) = storeds ≡ stored
EndStored stored storeds (Err (Fault fault)) = storeds ≡ stored
EndStored stored storeds (Err (Broken stop.Read)) = storeds ≡ stored
EndStored stored storeds (Err (Broken stop.Limit)) = storeds ≡ stored
EndStored stored storeds (Err (Broken stop.Write)) = (storeds ≡ stored) ⊎ Rose stored storeds
EndStored stored storeds (Err Store) = Rose stored storeds
EndStored stored storeds (Err Memory) = storeds ≡ stored
