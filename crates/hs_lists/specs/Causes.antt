-- Why a command wasn't done, the status that the program then ends with, and the line that it writes.
use Rattle.std.specs.Prelude.{ℕ, List, [], ◌++◌, codes, Option, Some, None, Result, Ok, Err}
use Rattle.hs_base.specs.declared.entry.ExprId.{ExprId}
use Rattle.hs_base.specs.declared.refusal.Refusal.{Refusal}
use Rattle.hs_text.specs.declared.reply_lines.ScriptFault.{ScriptFault}
use Rattle.hs_text.specs.RefusalLines.{refusal_line}
use Rattle.hs_text.specs.AnswerLines.{form_line}
use Rattle.hs_lists.specs.declared.fault.Fault.{Fault}
use Rattle.hs_lists.specs.declared.fault.Fault.TheVariants.{Usage, Refused, Read, Write, Store, Absent, Limit, Form}
use Rattle.hs_lists.specs.declared.fault.Fault.TheVariants.{Script, Memory}

pub data Cause : Type 0 where
  -- the words are no command
  usage : Cause
  -- the list is refused: by a line of its file, or by an entry, of which the number is counted from 1
  refused : Option (ℕ × ExprId) → Refusal → Cause
  -- the source failed
  read : Cause
  -- the sink failed
  write : Cause
  -- the store failed
  store : Cause
  -- the store lacks the file of this name
  absent : List ℕ → Cause
  -- a file or the script is longer than its limit
  limit : Cause
  -- the bytes aren't a database file from this place on
  form : ℕ → Cause
  -- the script has a fault
  script : ScriptFault → Cause
  -- memory was wanted
  memory : Cause

-- a fault of the program as a plain cause
abbrev pub cause_of : Fault → Cause
cause_of Usage = usage
cause_of (Refused entry refusal) = refused entry refusal
cause_of Read = read
cause_of Write = write
cause_of Store = store
cause_of (Absent name) = absent name.now
cause_of Limit = limit
cause_of (Form at) = form at
cause_of (Script fault) = script fault
cause_of Memory = memory

-- how a command ended: nothing, where it was done, else the cause
abbrev pub outcome_of : {A : Type 0} → Result A Fault → Option Cause
outcome_of (Ok x) = None
outcome_of (Err fault) = Some (cause_of fault)

abbrev pub status_of_cause : Cause → ℕ
status_of_cause usage = 1
status_of_cause (refused entry refusal) = 2
status_of_cause read = 3
status_of_cause write = 3
status_of_cause store = 3
status_of_cause (absent name) = 7
status_of_cause limit = 8
status_of_cause (form at) = 4
status_of_cause (script fault) = 5
status_of_cause memory = 6

-- the status: 0 where the command was done
abbrev pub status_of : Option Cause → ℕ
status_of None = 0
status_of (Some cause) = status_of_cause cause

-- the line on standard error: none for a fault of the script, whose line is among its answers
abbrev pub line_of_cause : Cause → List ℕ
line_of_cause usage = codes "fault usage\n"
line_of_cause (refused entry refusal) = refusal_line entry refusal
line_of_cause read = codes "fault read\n"
line_of_cause write = codes "fault write\n"
line_of_cause store = codes "fault store\n"
line_of_cause (absent name) = codes "fault absent " ++ name ++ codes "\n"
line_of_cause limit = codes "fault limit\n"
line_of_cause (form at) = form_line at
line_of_cause (script fault) = []
line_of_cause memory = codes "fault memory\n"

-- the line on standard error: none where the command was done
abbrev pub fault_line : Option Cause → List ℕ
fault_line None = []
fault_line (Some cause) = line_of_cause cause
