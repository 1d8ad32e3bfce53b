use Rattle.hs_base.specs.Contexts.{context_number}
use Rattle.hs_base.specs.ContextSets.{has_context}
use Rattle.hs_base.proofs.ContextSetLemmas.{bit-empty}
use Rattle.hs_base.proofs.context.Mask.empty.Goals as goal

pub returns : goal.returns
unfolding has_context
returns c context = bit-empty (context_number context)
