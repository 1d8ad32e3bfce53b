use Rattle.hs_compile.proofs.graph_kinds.edges_of.Goals as goal
use Rattle.hs_waking.specs.BeginningRows.{rows_of_beginnings}

pub returns : goal.returns
returns c = record { begins = (rows_of_beginnings c.beginnings.result.rows, c.beginnings.ensures); ends = c.last_bytes.ensures }
