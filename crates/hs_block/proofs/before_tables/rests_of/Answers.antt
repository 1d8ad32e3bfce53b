use Rattle.std.proofs.Common.{◌/◌, ◌%◌, ◌&&◌, not, ap, ◌∙◌, arith}
use Rattle.hs_engine.specs.Rows.{in_square}
use Rattle.hs_block.proofs.OrderLemmas.{RestBit}
use Rattle.hs_block.proofs.TableLemmas.{rows-more}
use Rattle.hs_block.proofs.before_tables.rests_of.Goals as goal

pub loop-number-preserved : goal.loop-number-preserved
loop-number-preserved c =
    let follows = c.args.follows.now in
    let r = c.loop-number.number in
    rows-more (RestBit follows c.args.width c.args.froms.now) c.args.width r c.loop-number.rows.items _ _ c.loop-number.invariant (omega arith)
    (λ y below. c.rest_row-row.ensures.bits y ∙ ap (λ b. in_square follows (r % 12) y (r / 12) && not b) (c.row_at-always.ensures.bits y below)) c.in_ok-push_row.ensures
