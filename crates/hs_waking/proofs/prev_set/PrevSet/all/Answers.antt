use Rattle.std.proofs.Common.{refl}
use Rattle.hs_base.specs.Contexts.{prev_number}
use Rattle.hs_base.proofs.ContextSetLemmas.{bit-all, prev_number-lt}
use Rattle.hs_waking.specs.PrevSets.{has_prev, is_each}
use Rattle.hs_waking.proofs.prev_set.PrevSet.all.Goals as goal

pub returns-clause-members : goal.returns-clause-members
unfolding has_prev
returns-clause-members c prev = bit-all 4 (prev_number prev) (prev_number-lt prev)

pub returns-clause-each : goal.returns-clause-each
unfolding is_each
returns-clause-each c = refl
