use Rattle.hs_pool.proofs.StepLemmas.{step-is}
use Rattle.hs_pool.proofs.state.step_to.Goals as goal

pub returns : goal.returns
returns c = step-is c.args.next c.args.ends
