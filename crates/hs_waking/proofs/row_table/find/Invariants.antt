use Rattle.std.proofs.Common.{◌≤◌, length}
use Rattle.hs_waking.proofs.row_table.find.Given as goal

abbrev pub invariant-loop-number : goal.invariant-loop-number
invariant-loop-number l = l.number ≤ length l.kept
