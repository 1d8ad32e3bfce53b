-- How runs go on, for whoever makes one command by command.
use Rattle.std.specs.Prelude.{◌≡◌, List, [], ◌∷◌, ◌++◌}
use Rattle.hs_script.specs.Actions.{Action}
use Rattle.hs_script.specs.Bases.{Basis}
use Rattle.hs_script.specs.Machine.{Answer, Machine, Steps}
use Rattle.hs_script.specs.Runs.{IsRun, answer_text, run_text}

-- a run with one more command, and its text
pub record IsOneMore
    (basis : Basis) (from : Machine) (actions : List Action) (answers : List Answer) (action : Action)
    (answer : Answer) (after : Machine) : Type 0 where
  pub run : IsRun basis from (actions ++ action ∷ []) (answers ++ answer ∷ []) after
  pub text :
      run_text (actions ++ action ∷ []) (answers ++ answer ∷ []) ≡ run_text actions answers ++ answer_text action answer

-- A run goes on by any step; its text grows at its end, by the lines of that step.
abbrev pub RunsGoOn : Type 0
RunsGoOn =
    (basis : Basis) (actions : List Action) (answers : List Answer) (action : Action) (answer : Answer)
    (from m after : Machine) →
    IsRun basis from actions answers m →
    Steps basis m action answer after →
    IsOneMore basis from actions answers action answer after
