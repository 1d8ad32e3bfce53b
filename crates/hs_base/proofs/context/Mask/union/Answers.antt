use Rattle.hs_base.specs.Contexts.{context_number}
use Rattle.hs_base.specs.ContextSets.{has_context}
use Rattle.hs_base.proofs.ByteSetLemmas.{bit-or}
use Rattle.hs_base.proofs.context.Mask.union.Goals as goal

pub returns : goal.returns
unfolding has_context
returns c context = bit-or c.args.self.bits c.args.other.bits (context_number context)
