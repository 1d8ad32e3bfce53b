use Rattle.std.proofs.Common.{◌+◌, ◌-◌}
use Rattle.hs_fdr.specs.Lanes.{HasLanes}
use Rattle.hs_fdr.specs.Adding.{added_by, rows_of}
use Rattle.hs_fdr.proofs.block.group.Given as goal

abbrev pub invariant-loop-back : goal.invariant-loop-back
invariant-loop-back l = HasLanes l.sum (λ k. added_by (rows_of l.tables l.bytes) (l.at + (8 - l.back)) l.back k)
