use Rattle.std.proofs.Common.{arith}
use Rattle.hs_base.specs.Contexts.{Context}
use Rattle.hs_limex.proofs.NumberLemmas.{in_row-from}
use Rattle.hs_limex.proofs.far_filling.fill_far.Goals as goal

pub returns-clause-rest : goal.returns-clause-rest
returns-clause-rest c x y is =
    let here : Context = record { prev = c.args.prev; next = c.args.next } in
    c.loop-position.invariant.rest x y (omega (arith, c.requires.size, in_row-from c.args.follows.now x y here is)) is
