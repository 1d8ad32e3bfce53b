use Rattle.hs_lines.proofs.PassLemmas.{puts-alone, puts-counted, puts-failed}
use Rattle.hs_tool.proofs.session.answers.write_reply.Goals as goal

pub returns-clause-sends : goal.returns-clause-sends
returns-clause-sends g c = puts-alone c.put.result _ _ _ _ _ _ _ (rw c.as_slice.ensures.bytes at (rw c.reply_line-len.ensures.text at c.put.ensures))

pub returns-clause-counted : goal.returns-clause-counted
returns-clause-counted g c = puts-counted c.put.result _ _ _ _ _ _ _ c.put.ensures

pub returns-clause-failed : goal.returns-clause-failed
returns-clause-failed g c = puts-failed c.put.result _ _ _ _ _ _ _ c.put.ensures
