use Rattle.std.proofs.Common.{◌+◌, Bool, ◌&&◌, ◌||◌, eqb, ap, ◌∙◌, arith}
use Rattle.hs_base.specs.Contexts.{Context}
use Rattle.hs_engine.specs.Rows.{in_row}
use Rattle.hs_limex.specs.WordTables.{in_table}
use Rattle.hs_limex.proofs.NumberLemmas.{in_row-past}
use Rattle.hs_bits.proofs.WordLemmas.{and-none, all-under}
use Rattle.hs_limex.proofs.far_filling.fill_near.Goals as goal

pub returns-clause-bits : goal.returns-clause-bits
returns-clause-bits c n k =
    let here : Context = record { prev = c.args.prev; next = c.args.next } in
    let test : Bool = in_row c.args.follows.now k (k + c.args.distance) here in
    c.loop-position.invariant.bits n k
    ∙ ap (λ b. b || in_table c.args.rows.now n k)
    (all-under k c.loop-position.position (eqb n c.args.number && test)
    (λ past. ap (λ b. eqb n c.args.number && b) (in_row-past c.args.follows.now k (k + c.args.distance) here (omega (arith, past, c.requires.size))) ∙ and-none (eqb n c.args.number)))
