use Rattle.std.proofs.Common.{◌*◌, ◌%◌, ◌^◌, ◌∙◌, ap, eqb}
use Rattle.std.specs.Int.{bit_at}
use Rattle.hs_base.specs.Contexts.{next_number}
use Rattle.hs_base.specs.ContextSets.{has_next}
use Rattle.hs_base.proofs.ContextSetLemmas.{bit-one, power-of_next}
use Rattle.hs_base.proofs.context.NextSet.of.Goals as goal

pub returns : goal.returns
unfolding has_next
returns c other =
    ap (λ k. eqb (bit_at (1 * 2 ^ k % 256) (next_number other)) 1) c.number.ensures
    ∙ (ap (λ n. eqb (bit_at n (next_number other)) 1) (power-of_next c.args.next) ∙ bit-one (next_number c.args.next) (next_number other))
