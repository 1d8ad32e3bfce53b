use Rattle.hs_lines.proofs.PassLemmas.{flush-alone, sends-counted, sends-failed}
use Rattle.hs_tool.proofs.session.answer_now.Goals as goal

pub returns-clause-sends : goal.returns-clause-sends
returns-clause-sends g c = flush-alone c.flush.result _ _ _ _ _ _ c.flush.ensures.sent c.flush.ensures.empty

pub returns-clause-counted : goal.returns-clause-counted
returns-clause-counted g c = sends-counted c.flush.result _ _ _ _ _ c.flush.ensures.sent

pub returns-clause-failed : goal.returns-clause-failed
returns-clause-failed g c = sends-failed c.flush.result _ _ _ _ _ c.flush.ensures.sent
