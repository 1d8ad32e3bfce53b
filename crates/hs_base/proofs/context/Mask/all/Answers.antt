use Rattle.hs_base.specs.Contexts.{context_number}
use Rattle.hs_base.specs.ContextSets.{has_context}
use Rattle.hs_base.proofs.ContextSetLemmas.{bit-all, context_number-lt}
use Rattle.hs_base.proofs.context.Mask.all.Goals as goal

pub returns : goal.returns
unfolding has_context
returns c context = bit-all 24 (context_number context) (context_number-lt context)
