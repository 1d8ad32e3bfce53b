use Rattle.std.proofs.Common.{◌<◌, ◌≤◌, ◌-◌}
use Rattle.hs_confirm.proofs.filing.row_count.Given as goal

abbrev pub invariant-loop-rows : goal.invariant-loop-rows
invariant-loop-rows l = record { some : 0 < l.rows; few : l.rows ≤ 2097152 }

abbrev pub decreases-loop-rows : goal.decreases-loop-rows
decreases-loop-rows l = 2097152 - l.rows
