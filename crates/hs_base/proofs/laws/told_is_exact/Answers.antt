use Rattle.hs_base.proofs.ExactLemmas.{told-exact}
use Rattle.hs_base.proofs.laws.told_is_exact.Goals as goal

pub returns : goal.returns
returns c = told-exact
