use Rattle.hs_waking.proofs.RowLemmas.{same-rows}
use Rattle.hs_waking.proofs.rows.are_same.Goals as goal

pub returns : goal.returns
returns c = same-rows c.args.row.now c.args.other.now c.eq.result c.eq.ensures
