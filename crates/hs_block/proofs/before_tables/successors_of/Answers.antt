use Rattle.std.proofs.Common.{arith}
use Rattle.hs_block.proofs.OrderLemmas.{SuccessorBit}
use Rattle.hs_block.proofs.TableLemmas.{rows-more}
use Rattle.hs_block.proofs.before_tables.successors_of.Goals as goal

pub loop-position-preserved : goal.loop-position-preserved
loop-position-preserved c =
    rows-more (SuccessorBit c.args.follows.now) c.args.width c.loop-position.position c.loop-position.rows.items _ _ c.loop-position.invariant (omega arith) (λ y below k few is apart. c.successor_row.ensures.have k y few is apart)
    c.in_ok-push_row.ensures
