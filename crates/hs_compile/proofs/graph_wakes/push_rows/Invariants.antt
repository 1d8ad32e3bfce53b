use Rattle.std.proofs.Common.{◌-◌, length, take}
use Rattle.hs_compile.specs.GraphWakes.{PutsRows}
use Rattle.hs_waking.specs.BeginningRows.{rows_of_beginnings}
use Rattle.hs_compile.proofs.graph_wakes.push_rows.Given as goal

abbrev pub invariant-loop-beginning : goal.invariant-loop-beginning
invariant-loop-beginning l = PutsRows l.fn.table l.table l.beginnings.behind (take l.number (rows_of_beginnings l.beginnings.rows))

abbrev pub decreases-loop-beginning : goal.decreases-loop-beginning
decreases-loop-beginning l = length (rows_of_beginnings l.beginnings.rows) - l.number
