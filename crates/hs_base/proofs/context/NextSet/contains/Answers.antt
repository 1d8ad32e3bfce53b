use Rattle.hs_base.specs.Contexts.{next_number}
use Rattle.hs_base.specs.ContextSets.{has_next}
use Rattle.hs_base.proofs.ContextSetLemmas.{bit-test}
use Rattle.hs_base.proofs.context.NextSet.contains.Goals as goal

pub returns : goal.returns
unfolding has_next
returns c = bit-test c.args.self.bits c.number.result (next_number c.args.next) c.number.ensures
