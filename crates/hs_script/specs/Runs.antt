-- Runs of the machine over scripts, and their texts.
use Rattle.std.specs.Prelude.{◌≡◌, ℕ, List, [], ◌∷◌, ◌++◌, codes, Option, None, Some}
use Rattle.std.specs.List.{flat_map}
use Rattle.hs_base.specs.Told.{Pair}
use Rattle.hs_base.specs.MatchText.{report_line}
use Rattle.hs_text.specs.declared.reply_lines.Reply.{Reply}
use Rattle.hs_text.specs.declared.reply_lines.ScriptFault.{ScriptFault}
use Rattle.hs_text.specs.ReplyLines.{reply_line, fault_line}
use Rattle.hs_script.specs.Actions.{Action, name_of}
use Rattle.hs_script.specs.Scripts.{IsScript}
use Rattle.hs_script.specs.Bases.{Basis, File}
use Rattle.hs_script.specs.Machine.{Answer, Machine, start, Steps}

-- The machine goes through the actions with these answers.
pub data IsRun (basis : Basis) : Machine → List Action → List Answer → Machine → Type 0 where
  none : {m : Machine} → IsRun basis m [] [] m
  more : {before between after : Machine} {action : Action} {answer : Answer}
      {actions : List Action} {answers : List Answer} →
      Steps basis before action answer between →
      IsRun basis between actions answers after →
      IsRun basis before (action ∷ actions) (answer ∷ answers) after

-- the line of a report: `N ID TO`
abbrev pub named_line : List ℕ → Pair → List ℕ
named_line name pair = name ++ codes " " ++ report_line pair

-- the line of a reply, if there is one
abbrev pub reply_text : List ℕ → Option Reply → List ℕ
reply_text name None = []
reply_text name (Some reply) = reply_line name reply

-- the lines of a command: its reports, then its reply
abbrev pub answer_text : Action → Answer → List ℕ
answer_text action answer =
    flat_map (named_line (name_of action)) answer.reports ++ reply_text (name_of action) answer.reply

-- the lines of commands in order
abbrev pub run_text : List Action → List Answer → List ℕ
run_text [] answers = []
run_text (action ∷ actions) [] = []
run_text (action ∷ actions) (answer ∷ answers) = answer_text action answer ++ run_text actions answers

-- the line of a fault, if there is one
abbrev pub ending_text : Option ScriptFault → List ℕ
ending_text None = []
ending_text (Some fault) = fault_line fault

-- The text of a run over the script that these bytes are, where this is told of files at the start: the lines of its
-- commands, then that of its fault.
pub record IsRunText (basis : Basis) (files : List ℕ → File) (bytes : List ℕ) (answers : List Answer)
    (text : List ℕ) : Type 0 where
  pub actions : List Action
  pub ending : Option ScriptFault
  pub after : Machine
  pub script : IsScript 1 bytes actions ending
  pub run : IsRun basis (start files) actions answers after
  pub whole : text ≡ run_text actions answers ++ ending_text ending
