use Rattle.std.proofs.Common.{map, string_bytes, None, Some, refl, ap}
use Rattle.hs_outside.proofs.Sending.{Took-nothing}
use Rattle.hs_request.specs.Requests.{request_of}
use Rattle.hs_lists.specs.Causes.{cause_of}
use Rattle.hs_tool.specs.Answers.{told}
use Rattle.hs_tool.proofs.DueLemmas.{due_outcome}
use Rattle.hs_tool.proofs.StatusLemmas.{answer_status, answer_usage, answer_no_command, answer_fault, answer_silent, answer_unput, answer_complete, answer_script, answer_unread, answer_run, answer_soaked}
use Rattle.hs_tool.proofs.top.run.Goals as goal

pub returns-in-Ok-clause-answer : goal.returns-in-Ok-clause-answer
returns-in-Ok-clause-answer g c = record {
  outcome = None;
  ended = refl;
  ends = c.in-Ok.ensures.ends;
  due = due_outcome (request_of (map string_bytes c.args.words.now)) _ _ _ _ None c.in-Ok.ensures.ends;
  line = told (Took-nothing (g.E.Sink.written c.args.err.now)) refl;
}

pub returns-in-Err-clause-answer : goal.returns-in-Err-clause-answer
returns-in-Err-clause-answer g c = record {
  outcome = Some (cause_of c.in-Err.fault);
  ended = c.refuse.ensures.status;
  ends = c.in-Err.ensures.ends;
  due = due_outcome (request_of (map string_bytes c.args.words.now)) _ _ _ _ (Some (cause_of c.in-Err.fault)) c.in-Err.ensures.ends;
  line = c.refuse.ensures.line;
}

pub returns-in-Ok-clause-status : goal.returns-in-Ok-clause-status
returns-in-Ok-clause-status g c = answer_status (returns-in-Ok-clause-answer g c)

pub returns-in-Ok-clause-usage : goal.returns-in-Ok-clause-usage
returns-in-Ok-clause-usage g c = answer_usage (returns-in-Ok-clause-answer g c)

pub returns-in-Ok-clause-no_command : goal.returns-in-Ok-clause-no_command
returns-in-Ok-clause-no_command g c = answer_no_command (returns-in-Ok-clause-answer g c)

pub returns-in-Ok-clause-fault : goal.returns-in-Ok-clause-fault
returns-in-Ok-clause-fault g c = answer_fault (returns-in-Ok-clause-answer g c)

pub returns-in-Ok-clause-silent : goal.returns-in-Ok-clause-silent
returns-in-Ok-clause-silent g c = answer_silent (returns-in-Ok-clause-answer g c)

pub returns-in-Ok-clause-unput : goal.returns-in-Ok-clause-unput
returns-in-Ok-clause-unput g c = answer_unput (returns-in-Ok-clause-answer g c) c.in-Ok.ensures.kept

pub returns-in-Ok-clause-complete : goal.returns-in-Ok-clause-complete
returns-in-Ok-clause-complete g c = answer_complete (returns-in-Ok-clause-answer g c)

pub returns-in-Err-clause-status : goal.returns-in-Err-clause-status
returns-in-Err-clause-status g c = answer_status (returns-in-Err-clause-answer g c)

pub returns-in-Err-clause-usage : goal.returns-in-Err-clause-usage
returns-in-Err-clause-usage g c = answer_usage (returns-in-Err-clause-answer g c)

pub returns-in-Err-clause-no_command : goal.returns-in-Err-clause-no_command
returns-in-Err-clause-no_command g c = answer_no_command (returns-in-Err-clause-answer g c)

pub returns-in-Err-clause-fault : goal.returns-in-Err-clause-fault
returns-in-Err-clause-fault g c = answer_fault (returns-in-Err-clause-answer g c)

pub returns-in-Err-clause-silent : goal.returns-in-Err-clause-silent
returns-in-Err-clause-silent g c = answer_silent (returns-in-Err-clause-answer g c)

pub returns-in-Err-clause-unput : goal.returns-in-Err-clause-unput
returns-in-Err-clause-unput g c = answer_unput (returns-in-Err-clause-answer g c) c.in-Err.ensures.kept

pub returns-in-Err-clause-complete : goal.returns-in-Err-clause-complete
returns-in-Err-clause-complete g c = answer_complete (returns-in-Err-clause-answer g c)

pub returns-in-Ok-clause-script : goal.returns-in-Ok-clause-script
returns-in-Ok-clause-script g c = answer_script (returns-in-Ok-clause-answer g c)

pub returns-in-Ok-clause-unread : goal.returns-in-Ok-clause-unread
returns-in-Ok-clause-unread g c = answer_unread (returns-in-Ok-clause-answer g c) (λ other. ap g.I.Source.left (c.in-Ok.ensures.input other))

pub returns-in-Ok-clause-stream : goal.returns-in-Ok-clause-stream
returns-in-Ok-clause-stream g c = answer_run (returns-in-Ok-clause-answer g c)

pub returns-in-Err-clause-script : goal.returns-in-Err-clause-script
returns-in-Err-clause-script g c = answer_script (returns-in-Err-clause-answer g c)

pub returns-in-Err-clause-unread : goal.returns-in-Err-clause-unread
returns-in-Err-clause-unread g c = answer_unread (returns-in-Err-clause-answer g c) (λ other. ap g.I.Source.left (c.in-Err.ensures.input other))

pub returns-in-Err-clause-stream : goal.returns-in-Err-clause-stream
returns-in-Err-clause-stream g c = answer_run (returns-in-Err-clause-answer g c)

pub returns-in-Ok-clause-soak : goal.returns-in-Ok-clause-soak
returns-in-Ok-clause-soak g c = answer_soaked (returns-in-Ok-clause-answer g c)

pub returns-in-Err-clause-soak : goal.returns-in-Err-clause-soak
returns-in-Err-clause-soak g c = answer_soaked (returns-in-Err-clause-answer g c)
