use Rattle.hs_base.proofs.ToldLemmas.{new-once}
use Rattle.hs_base.proofs.laws.new_once.Goals as goal

pub returns : goal.returns
returns c = new-once
