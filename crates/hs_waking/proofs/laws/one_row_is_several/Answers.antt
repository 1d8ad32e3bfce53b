use Rattle.hs_waking.proofs.RowLemmas.{tells-one-row}
use Rattle.hs_waking.proofs.laws.one_row_is_several.Goals as goal

pub returns : goal.returns
returns g c engine behind row tells = tells-one-row _ behind row tells
