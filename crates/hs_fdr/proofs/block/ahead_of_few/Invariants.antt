use Rattle.std.proofs.Common.{◌+◌, ◌++◌}
use Rattle.hs_fdr.specs.Lanes.{HasLanes}
use Rattle.hs_fdr.specs.Adding.{added, text_rows}
use Rattle.hs_fdr.proofs.block.ahead_of_few.Given as goal

abbrev pub invariant-loop-place : goal.invariant-loop-place
invariant-loop-place l = HasLanes l.ahead (λ k. added (text_rows l.tables (l.before ++ l.block) l.next) l.place (l.place + k))
