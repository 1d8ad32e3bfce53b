use Rattle.hs_base.proofs.ToldLemmas.{last-once}
use Rattle.hs_base.proofs.laws.last_once.Goals as goal

pub returns : goal.returns
returns c = last-once
