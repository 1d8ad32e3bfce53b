use Rattle.std.proofs.Common.{arith}
use Rattle.hs_bits.proofs.PlaceLemmas.{bit-none}
use Rattle.hs_block.proofs.OrderLemmas.{asked-more, few-more}
use Rattle.hs_block.proofs.TableLemmas.{row-room}
use Rattle.hs_block.proofs.before_tables.asked_squares.Goals as goal

pub loop-square-init : goal.loop-square-init
loop-square-init c = record {
  few = λ q past. bit-none q;
  unasked = λ q y below. absurd (omega (arith, below));
}

pub row_at-row-requires : goal.row_at-row-requires
row_at-row-requires c = omega (arith, row-room c.args.width c.loop-square.square 12 (omega arith), c.requires.room)

pub loop-square-preserved : goal.loop-square-preserved
loop-square-preserved c =
    let inv = c.loop-square.invariant in
    record {
      few = few-more c.loop-square.square c.loop-square.squares c.with_place-squares.result c.is_unset.result c.with_place-squares.ensures inv.few;
      unasked =
          asked-more c.args.rests.now c.row_at-row.result.now c.args.width c.args.position c.loop-square.square c.loop-square.squares c.with_place-squares.result c.is_unset.result c.row_at-row.ensures.bits c.is_unset.ensures c.with_place-squares.ensures
          inv.unasked;
    }
