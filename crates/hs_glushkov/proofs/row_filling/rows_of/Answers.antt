use Rattle.std.proofs.Common.{◌≡◌, ◌∙◌, sym, ap, arith}
use Rattle.hs_engine.specs.RowSizes.{square_count}
use Rattle.hs_glushkov.proofs.SquareLemmas.{rows-filled}
use Rattle.hs_glushkov.proofs.row_filling.rows_of.Goals as goal

pub returns-clause-follows : goal.returns-clause-follows
returns-clause-follows c x y prev b =
    rows-filled c.loop-square.rows c.args.follows.now c.loop-square.square c.is_alike.result c.loop-square.invariant.filled c.is_alike.ensures x y prev b
    (c.loop-square.invariant.by_context ∙ c.in_ok-rows.ensures.by_context)
    (let end : c.loop-square.square ≡ c.square_count-square-end.result = omega arith in
    end ∙ (c.square_count-square-end.ensures ∙ ap square_count (sym c.loop-square.invariant.by_context)))
