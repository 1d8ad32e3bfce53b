use Rattle.hs_base.proofs.ExactLemmas.{told-apart}
use Rattle.hs_base.proofs.laws.told_repeats_nothing.Goals as goal

pub returns : goal.returns
returns c = told-apart
