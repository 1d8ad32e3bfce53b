use Rattle.hs_layout.specs.Rows.{IsRowWritten}
use Rattle.hs_layout.proofs.word_rows.write_row.Given as goal

abbrev pub invariant-loop-k : goal.invariant-loop-k
invariant-loop-k l = IsRowWritten l.from l.k l.row l.fn.region l.region
