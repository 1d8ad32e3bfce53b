use Rattle.std.proofs.Common.{◌≤◌, length}
use Rattle.hs_waking.proofs.rows.has_row.Given as goal

abbrev pub invariant-loop-kept : goal.invariant-loop-kept
invariant-loop-kept l = l.kept-index ≤ length l.rows
