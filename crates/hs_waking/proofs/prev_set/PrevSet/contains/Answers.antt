use Rattle.hs_base.specs.Contexts.{prev_number}
use Rattle.hs_base.proofs.ContextSetLemmas.{bit-test}
use Rattle.hs_waking.specs.PrevSets.{has_prev}
use Rattle.hs_waking.proofs.prev_set.PrevSet.contains.Goals as goal

pub returns : goal.returns
unfolding has_prev
returns c = bit-test c.args.self.bits c.number.result (prev_number c.args.prev) c.number.ensures
