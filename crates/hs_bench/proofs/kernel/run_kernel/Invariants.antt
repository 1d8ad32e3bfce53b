use Rattle.std.proofs.Common.{◌≡◌, ◌*◌, fold, map, bit_and, get_or}
use Rattle.std.specs.List.{range_with_len}
use Rattle.hs_bench.specs.Kernel.{masks_from}
use Rattle.hs_bench.proofs.kernel.run_kernel.Given as goal

abbrev pub invariant-loop-block : goal.invariant-loop-block
invariant-loop-block l = l.all ≡ fold bit_and 255 (map (λ block. get_or (masks_from l.tables l.text (block * 64)) 0 0) (range_with_len 0 l.block))
