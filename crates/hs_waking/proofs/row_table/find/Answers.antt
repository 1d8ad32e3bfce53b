use Rattle.std.proofs.Common.{arith}
use Rattle.hs_waking.proofs.RowTableLemmas.{same-set}
use Rattle.hs_waking.proofs.row_table.find.Goals as goal

pub returns-then-eq-clause-there : goal.returns-then-eq-clause-there
returns-then-eq-clause-there c = same-set c.args.kept.now c.loop-number.number _ c.args.set.now c.eq.result (omega (arith, c.loop-number-test.true, c.min-number-end.ensures)) c.eq.ensures c.if-eq.true
