use Rattle.hs_base.proofs.ToldLemmas.{new-joins}
use Rattle.hs_base.proofs.laws.new_joins.Goals as goal

pub returns : goal.returns
returns c = new-joins
