use Rattle.hs_base.proofs.StreamContexts.{context-then}
use Rattle.hs_base.proofs.context_laws.contexts_follow.Goals as goal

pub returns : goal.returns
returns c = context-then
