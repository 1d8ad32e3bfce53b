use Rattle.std.proofs.Common.{◌*◌, get_or, ap}
use Rattle.hs_bench.specs.Kernel.{masks_from}
use Rattle.hs_bench.proofs.KernelLemmas.{ones-more}
use Rattle.hs_bench.proofs.kernel.run_kernel.Goals as goal

pub loop-block-preserved : goal.loop-block-preserved
loop-block-preserved c =
    ones-more (λ block. get_or (masks_from c.args.tables.now c.args.text.now (block * 64)) 0 0) c.loop-block.block c.loop-block.all (get_or c.make_masks.new.masks 0 0) c.loop-block.invariant
    (ap (λ masks. get_or masks 0 0) c.make_masks.ensures)
