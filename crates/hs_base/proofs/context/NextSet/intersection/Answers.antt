use Rattle.hs_base.specs.Contexts.{next_number}
use Rattle.hs_base.specs.ContextSets.{has_next}
use Rattle.hs_base.proofs.ContextSetLemmas.{bit-and}
use Rattle.hs_base.proofs.context.NextSet.intersection.Goals as goal

pub returns : goal.returns
unfolding has_next
returns c next = bit-and c.args.self.bits c.args.other.bits (next_number next)
