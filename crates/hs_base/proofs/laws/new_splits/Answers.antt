use Rattle.hs_base.proofs.ToldLemmas.{new-splits}
use Rattle.hs_base.proofs.laws.new_splits.Goals as goal

pub returns : goal.returns
returns c = new-splits
