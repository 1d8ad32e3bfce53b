use Rattle.hs_base.specs.Contexts.{next_number}
use Rattle.hs_base.specs.ContextSets.{has_next}
use Rattle.hs_base.proofs.ContextSetLemmas.{bit-all, next_number-lt}
use Rattle.hs_base.proofs.context.NextSet.all.Goals as goal

pub returns : goal.returns
unfolding has_next
returns c next = bit-all 6 (next_number next) (next_number-lt next)
