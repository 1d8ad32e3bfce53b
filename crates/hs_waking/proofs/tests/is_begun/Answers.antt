use Rattle.hs_waking.proofs.RowTableLemmas.{same-set}
use Rattle.hs_waking.proofs.tests.is_begun.Goals as goal

pub returns-then-number-sets : goal.returns-then-number-sets
returns-then-number-sets c equal few =
    let number = c.args.row.now.behind_number in (
      c.bytes.result,
      same-set c.args.sets.now number _ c.bytes.result c.eq.result c.if-number-sets.true c.eq.ensures equal,
      c.bytes.ensures,
    )
