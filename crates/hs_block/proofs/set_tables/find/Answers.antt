use Rattle.hs_block.proofs.SetTableLemmas.{same-set}
use Rattle.hs_block.proofs.set_tables.find.Goals as goal

pub returns-then-eq : goal.returns-then-eq
returns-then-eq c = same-set c.args.kept.now c.loop-number.number _ c.args.set.now c.eq.result c.loop-number-test.true c.eq.ensures c.if-eq.true
