use Rattle.hs_base.proofs.ToldLemmas.{told-once}
use Rattle.hs_base.proofs.laws.told_once.Goals as goal

pub returns : goal.returns
returns c = told-once
