use Rattle.hs_base.specs.Contexts.{prev_number}
use Rattle.hs_base.proofs.ContextSetLemmas.{bit-empty}
use Rattle.hs_waking.specs.PrevSets.{has_prev}
use Rattle.hs_waking.proofs.prev_set.PrevSet.empty.Goals as goal

pub returns : goal.returns
unfolding has_prev
returns c prev = bit-empty (prev_number prev)
