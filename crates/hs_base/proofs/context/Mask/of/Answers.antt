use Rattle.hs_base.specs.ContextSets.{has_context}
use Rattle.hs_base.proofs.context.Mask.of.Goals as goal

pub returns : goal.returns
unfolding has_context
returns c = c.assertion_bits.ensures
