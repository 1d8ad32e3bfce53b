use Rattle.hs_compile.proofs.WakeRowLemmas.{AreRowsTo}
use Rattle.hs_compile.proofs.graph_wakes.row_table.Given as goal

abbrev pub invariant-loop-i : goal.invariant-loop-i
invariant-loop-i l = AreRowsTo l.nodes l.engines l.list l.i l.starts.items l.table
