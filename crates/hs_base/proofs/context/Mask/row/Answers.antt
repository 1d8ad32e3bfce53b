use Rattle.std.proofs.Common.{◌+◌, ◌*◌, ◌∙◌, ap, eqb}
use Rattle.std.specs.Int.{bit_at}
use Rattle.hs_base.specs.Contexts.{next_number}
use Rattle.hs_base.specs.ContextSets.{has_next, has_context}
use Rattle.hs_base.proofs.ContextSetLemmas.{bit-row, next_number-lt}
use Rattle.hs_base.proofs.context.Mask.row.Goals as goal

pub returns : goal.returns
unfolding has_next has_context
returns c next =
    bit-row c.args.self.bits (6 * c.number.result) (next_number next) (next_number-lt next)
    ∙ ap (λ k. eqb (bit_at c.args.self.bits (6 * k + next_number next)) 1) c.number.ensures
