use Rattle.hs_base.proofs.ToldLemmas.{told-grows}
use Rattle.hs_base.proofs.laws.told_grows.Goals as goal

pub returns : goal.returns
returns c = told-grows
