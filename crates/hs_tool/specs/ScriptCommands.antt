-- One command of a script, as it is read and answered.
use Rattle.std.specs.Prelude.{◌≡◌, ◌≢◌, ℕ, ◌<◌, Bool, true, false, List, [], ◌∷◌, ◌++◌, length, Option, None, Some}
use Rattle.std.specs.Prelude.{Result, Ok, Err, IfOk, is_err}
use Rattle.std.specs.List.{flat_map}
use Rattle.hs_base.specs.Told.{Pair}
use Rattle.hs_outside.specs.declared.fault.Failed.{Failed}
use Rattle.hs_text.specs.declared.reply_lines.Reply.{Reply}
use Rattle.hs_base.specs.Assertions.{line_feed}
use Rattle.hs_text.specs.declared.reply_lines.ScriptFault.{ScriptFault}
use Rattle.hs_text.specs.declared.reply_lines.ScriptFault.TheVariants.{Script, Truncated}
use Rattle.hs_text.specs.Commands.{Order, IsCommand}
use Rattle.hs_text.specs.Commands as order
use Rattle.hs_compile.specs.Databases.{Compiled}
use Rattle.hs_script.specs.Actions.{Action, Write, Cut, name_of, IsAlone}
use Rattle.hs_script.specs.Machine.{Answer}
use Rattle.hs_script.specs.Runs.{named_line, answer_text, run_text, ending_text}
use Rattle.hs_outside.specs.Counts.{Rose}
use Rattle.hs_reader.specs.declared.fault.Break.TheVariants as stop
use Rattle.hs_tool.specs.declared.session.fault.ScriptStop.{ScriptStop}
use Rattle.hs_tool.specs.declared.session.fault.ScriptStop.TheVariants.{Fault, Broken, Store, Memory}
use Rattle.hs_tool.specs.declared.session.streams.Streams.{Streams}
use Rattle.hs_reader.specs.Reading.{Ahead, Consumes}
use Rattle.hs_reader.specs.Breaks.{NoFault, BreakCounts, IsDry, IsTooLong}
use Rattle.hs_lines.specs.Passing.{Passes}
use Rattle.hs_tool.specs.OpenStreams.{Holdings, Performs, PerformsStill}
use Rattle.hs_tool.specs.SavedFiles.{IsFileOrder}

-- An action was answered: the streams and files are those of the machine behind it, and its lines were sent.
pub record IsAnswered (db : Compiled) (action : Action) (lost : Bool) (old new : Holdings)
    (taken takes : Option (List ℕ)) (waited waits : List ℕ) : Type 0 where
  pub answer : Answer
  pub performs : Performs db old new (action ∷ []) (answer ∷ [])
  pub sends : Passes lost taken takes waited waits (answer_text action answer)

-- An action was made, with this answer where the lines of its reports could be sent.
pub record IsTold (db : Compiled) (action : Action) (outcome : Result Reply Failed) (old new : Streams)
    (taken takes : Option (List ℕ)) (waited waits : List ℕ) : Type 0 where
  pub pairs : List Pair
  pub reply : Reply
  pub is : IfOk outcome (λ told. told ≡ reply)
  pub performs : PerformsStill db old new (action ∷ []) (record { reports = pairs; reply = Some reply } ∷ [])
  pub sends : Passes (is_err outcome) taken takes waited waits (flat_map (named_line (name_of action)) pairs)

-- how a command ends: more may follow, the script has a fault there, or it isn't whole
pub data How : Type 0 where
  Goes : How
  Faulty : ScriptFault → How
  Part : How

-- the fault, if there is one
abbrev pub fault_of : How → Option ScriptFault
fault_of Goes = None
fault_of (Faulty fault) = Some fault
fault_of Part = None

-- What was taken behind a line of this number, and the actions that it makes with it.
pub data IsBehind (line : List ℕ) (number : ℕ) (seen : List ℕ) (ended : Bool) : List Action → How → Type 0 where
  no_command :
      ((order : Order) → IsCommand line order → ⊥) →
      seen ≡ [] →
      IsBehind line number seen ended [] (Faulty (Script number))
  alone : {order : Order} {action : Action} →
      IsCommand line order →
      IsAlone order action →
      seen ≡ [] →
      IsBehind line number seen ended (action ∷ []) Goes
  fed : {name came : List ℕ} →
      IsCommand line (order.Write name (length came)) →
      seen ≡ came ++ line_feed ∷ [] →
      IsBehind line number seen ended (Write name came ∷ []) Goes
  unfed : {name came : List ℕ} →
      IsCommand line (order.Write name (length came)) →
      seen ≡ came →
      ended ≡ true →
      IsBehind line number seen ended (Write name came ∷ []) Goes
  other : {name came : List ℕ} (b : ℕ) →
      IsCommand line (order.Write name (length came)) →
      b ≢ line_feed →
      seen ≡ came ++ b ∷ [] →
      IsBehind line number seen ended (Write name came ∷ []) (Faulty (Script number))
  cut : {name came : List ℕ} {count : ℕ} →
      IsCommand line (order.Write name count) →
      length came < count →
      seen ≡ came →
      ended ≡ true →
      IsBehind line number seen ended (Cut name count came ∷ []) (Faulty (Truncated number))
  part : {name came : List ℕ} {count : ℕ} →
      IsCommand line (order.Write name count) →
      length came < count →
      seen ≡ came →
      ended ≡ false →
      IsBehind line number seen ended (Cut name count came ∷ []) Part
  behind : {name came : List ℕ} →
      IsCommand line (order.Write name (length came)) →
      seen ≡ came →
      ended ≡ false →
      IsBehind line number seen ended (Write name came ∷ []) Part

-- The command of a line ran so: what was taken behind the line, the streams and files, and the lines that were sent.
pub record Runs (db : Compiled) (line : List ℕ) (number : ℕ) (old new : Holdings) (before now : Option (List ℕ))
    (ahead aheads : Ahead) (taken takes : Option (List ℕ)) (waited waits : List ℕ)
    (lost : Bool) (how : How) : Type 0 where
  pub seen : List ℕ
  pub actions : List Action
  pub answers : List Answer
  pub consumes : Consumes before now ahead aheads seen
  pub is : IsBehind line number seen aheads.ended actions how
  pub paired : length actions ≡ length answers
  pub performs : Performs db old new actions answers
  pub sends : Passes lost taken takes waited waits (run_text actions answers ++ ending_text (fault_of how))

-- The store failed at the command of a line, which names a file. Nothing more was taken, and nothing sent.
pub record IsUnkept (line : List ℕ) (before now : Option (List ℕ)) (ahead aheads : Ahead)
    (taken takes : Option (List ℕ)) (waited waits : List ℕ) : Type 0 where
  pub order : Order
  pub command : IsCommand line order
  pub names_file : IsFileOrder order
  pub consumes : Consumes before now ahead aheads []
  pub sends : Passes false taken takes waited waits []

-- it ran in some way, and the sink failed
pub record RunsSomehow (R : Bool → How → Type 0) : Type 0 where
  pub how : How
  pub runs : R true how

-- how it ran, or that the store failed, by what came of it
abbrev pub RunsBy : (Bool → How → Type 0) → Type 0 → Result (Unit {0}) ScriptStop → Type 0
RunsBy R Unkept (Ok done) = R false Goes
RunsBy R Unkept (Err (Fault fault)) = R false (Faulty fault)
RunsBy R Unkept (Err (Broken stop.Read)) = R false Part
RunsBy R Unkept (Err (Broken stop.Limit)) = R false Part
RunsBy R Unkept (Err (Broken stop.Write)) = RunsSomehow R
RunsBy R Unkept (Err Store) = Unkept
RunsBy R Unkept (Err Memory) = ⊥

-- what is ahead where reading was broken off
abbrev pub LeavesAt : Ahead → Result (Unit {0}) ScriptStop → Type 0
LeavesAt ahead (Ok done) = Unit {0}
LeavesAt ahead (Err (Fault fault)) = Unit {0}
LeavesAt ahead (Err (Broken stop.Read)) = IsDry ahead
LeavesAt ahead (Err (Broken stop.Limit)) = IsTooLong ahead
LeavesAt ahead (Err (Broken stop.Write)) = Unit {0}
LeavesAt ahead (Err Store) = Unit {0}
LeavesAt ahead (Err Memory) = ⊥

-- what was counted by the source and the sink
abbrev pub StopCounts : ℕ → ℕ → ℕ → ℕ → Result (Unit {0}) ScriptStop → Type 0
StopCounts read reads sunk sinks (Ok done) = NoFault read reads sunk sinks
StopCounts read reads sunk sinks (Err (Fault fault)) = NoFault read reads sunk sinks
StopCounts read reads sunk sinks (Err (Broken stop)) = BreakCounts read reads sunk sinks stop
StopCounts read reads sunk sinks (Err Store) = NoFault read reads sunk sinks
StopCounts read reads sunk sinks (Err Memory) = NoFault read reads sunk sinks

-- what was counted by the store
abbrev pub StoreCounts : ℕ → ℕ → Result (Unit {0}) ScriptStop → Type 0
StoreCounts stored storeds (Ok done) = storeds ≡ stored
StoreCounts stored storeds (Err (Fault fault)) = storeds ≡ stored
StoreCounts stored storeds (Err (Broken stop)) = storeds ≡ stored
StoreCounts stored storeds (Err Store) = Rose stored storeds
StoreCounts stored storeds (Err Memory) = storeds ≡ stored

-- it isn't the store that stopped the script
abbrev pub IsNotStore : Result (Unit {0}) ScriptStop → Type 0
IsNotStore (Ok done) = Unit {0}
IsNotStore (Err (Fault fault)) = Unit {0}
IsNotStore (Err (Broken stop)) = Unit {0}
IsNotStore (Err Store) = ⊥
IsNotStore (Err Memory) = Unit {0}

-- the line of a fault of the script was sent
abbrev pub SendsFault : ScriptFault → Option (List ℕ) → Option (List ℕ) → List ℕ → List ℕ → ScriptStop → Type 0
SendsFault fault taken takes waited waits (Fault told) =
    (told ≡ fault) × Passes false taken takes waited waits (ending_text (Some fault))
SendsFault fault taken takes waited waits (Broken stop.Write) =
    Passes true taken takes waited waits (ending_text (Some fault))
SendsFault fault taken takes waited waits (Broken stop.Read) = ⊥
SendsFault fault taken takes waited waits (Broken stop.Limit) = ⊥
SendsFault fault taken takes waited waits Store = ⊥
SendsFault fault taken takes waited waits Memory = ⊥

abbrev pub FaultCounts : ℕ → ℕ → ScriptStop → Type 0
FaultCounts sunk sinks (Fault told) = sinks ≡ sunk
FaultCounts sunk sinks (Broken stop) = Rose sunk sinks
FaultCounts sunk sinks Store = ⊥
FaultCounts sunk sinks Memory = ⊥

-- what came of a command whose answer was written
abbrev pub done_of : Result (Unit {0}) Failed → Result (Unit {0}) ScriptStop
done_of (Ok done) = Ok done
done_of (Err failed) = Err (Broken stop.Write)
