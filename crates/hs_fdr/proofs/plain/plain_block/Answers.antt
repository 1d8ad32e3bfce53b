use Rattle.std.proofs.Common.{arith}
use Rattle.hs_fdr.proofs.BlockLemmas.{block_masks-is}
use Rattle.hs_fdr.proofs.plain.plain_block.Goals as goal

pub returns : goal.returns
returns c =
    block_masks-is c.args.tables.now c.args.before.now c.args.block.now c.or_zero-last.result c.args.next c.loop-place.out c.or_zero-last.ensures c.loop-place.invariant.0
    (λ i h. c.loop-place.invariant.1 i (omega arith))
