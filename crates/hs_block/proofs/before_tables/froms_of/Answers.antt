use Rattle.std.proofs.Common.{arith}
use Rattle.hs_block.proofs.OrderLemmas.{FromBit}
use Rattle.hs_block.proofs.TableLemmas.{rows-more}
use Rattle.hs_block.proofs.before_tables.froms_of.Goals as goal

pub loop-position-preserved : goal.loop-position-preserved
loop-position-preserved c =
    rows-more (FromBit c.args.follows.now) c.args.width c.loop-position.position c.loop-position.rows.items _ _ c.loop-position.invariant (omega arith)
    (λ y below. record { each = λ k is few. c.always_row.ensures.each y k is few; one = λ single. c.always_row.ensures.one single y }) c.in_ok-push_row.ensures
