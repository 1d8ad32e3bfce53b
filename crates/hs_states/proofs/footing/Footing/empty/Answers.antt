use Rattle.hs_states.proofs.FootingLemmas.{blank-bits}
use Rattle.hs_states.proofs.footing.Footing.empty.Goals as goal

pub returns-clause-none : goal.returns-clause-none
returns-clause-none c k = blank-bits k
