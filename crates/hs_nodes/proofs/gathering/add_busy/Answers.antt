use Rattle.std.proofs.Common.{refl, arith}
use Rattle.hs_nodes.proofs.GatherLemmas.{busy-more, busy-none}
use Rattle.hs_nodes.proofs.gathering.add_busy.Goals as goal

pub loop-block-init : goal.loop-block-init
loop-block-init c = busy-none c.args.own.now c.args.busy.now

pub loop-block-preserved : goal.loop-block-preserved
loop-block-preserved c = busy-more c.args.own.now c.args.busy.now c.loop-block.busy c.loop-block.block _ _ _ (omega arith) refl refl refl c.loop-block.invariant
