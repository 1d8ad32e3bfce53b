use Rattle.hs_kept.proofs.KeptLemmas.{kept-no-larger}
use Rattle.hs_kept.proofs.laws.kept_is_no_larger.Goals as goal

pub returns : goal.returns
returns c = kept-no-larger
