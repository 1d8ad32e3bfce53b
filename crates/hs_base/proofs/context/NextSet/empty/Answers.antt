use Rattle.hs_base.specs.Contexts.{next_number}
use Rattle.hs_base.specs.ContextSets.{has_next}
use Rattle.hs_base.proofs.ContextSetLemmas.{bit-empty}
use Rattle.hs_base.proofs.context.NextSet.empty.Goals as goal

pub returns : goal.returns
unfolding has_next
returns c next = bit-empty (next_number next)
