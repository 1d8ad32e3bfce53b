use Rattle.std.proofs.Common.{◌+◌, ◌*◌, arith}
use Rattle.hs_base.specs.Contexts.{prev_number, next_number}
use Rattle.hs_base.specs.ContextSets.{has_context}
use Rattle.hs_base.proofs.ContextSetLemmas.{bit-test}
use Rattle.hs_base.proofs.context.Mask.contains.Goals as goal

pub returns : goal.returns
unfolding has_context
returns c =
    bit-test c.args.self.bits (6 * c.number.result + c.number-2.result) (6 * prev_number c.args.prev + next_number c.args.next)
    (omega (arith, c.number.ensures, c.number-2.ensures))
