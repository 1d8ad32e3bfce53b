use Rattle.hs_request.proofs.NumberLemmas.{number-said, number-unsaid}
use Rattle.hs_request.proofs.request.number_of.Goals as goal

pub returns-in-Ok : goal.returns-in-Ok
returns-in-Ok c = number-said c.args.word.now c.in-Ok.number c.in-Ok.ensures.value.0

pub returns-in-Err : goal.returns-in-Err
returns-in-Err c = number-unsaid c.args.word.now c.in-Err.ensures.value.0
