use Rattle.std.proofs.Common.{◌&&◌, ◌||◌, eqb, ap, ◌∙◌, arith}
use Rattle.hs_base.specs.Contexts.{Context}
use Rattle.hs_engine.specs.Rows.{in_square}
use Rattle.hs_glushkov.specs.FollowTables.{is_followed}
use Rattle.hs_glushkov.specs.Ranges.{is_within}
use Rattle.hs_glushkov.proofs.FollowLemmas.{all-rows}
use Rattle.hs_glushkov.proofs.FollowLemmas.{and-swapped}
use Rattle.hs_glushkov.proofs.row_filling.fill_square.Goals as goal

pub returns-clause-filled : goal.returns-clause-filled
returns-clause-filled c k x y =
    let here : Context = record { prev = c.args.prev; next = c.args.class } in
    c.loop-from.invariant.filled k x y
    ∙ ap (λ b. b || in_square c.args.rows.now k x y)
    (and-swapped (is_within 0 c.loop-from.from x) (eqb k c.args.square) (is_followed c.args.follows.now x y here)
    ∙ ap (λ b. eqb k c.args.square && b) (all-rows c.args.follows.now c.loop-from.from x y here (omega arith)))
