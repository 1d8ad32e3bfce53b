use Rattle.hs_base.proofs.ContextLemmas.{holds-allows, allows-holds}
use Rattle.hs_base.proofs.context_laws.assertions_see_contexts.Goals as goal

pub returns : goal.returns
returns c w ended a p = (holds-allows w ended p a, allows-holds w ended p a)
