use Rattle.hs_expr.proofs.ItemLemmas.{items-Each, items_of-again}
use Rattle.hs_expr.proofs.laws.items_stay_as_they_are.Goals as goal

pub returns-clause-whole : goal.returns-clause-whole
returns-clause-whole c = items-Each

pub returns-clause-again : goal.returns-clause-again
returns-clause-again c = items_of-again
