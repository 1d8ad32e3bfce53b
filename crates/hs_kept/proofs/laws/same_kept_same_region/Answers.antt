use Rattle.hs_kept.proofs.KeptLemmas.{same-kept-same-region}
use Rattle.hs_kept.proofs.laws.same_kept_same_region.Goals as goal

pub returns : goal.returns
returns c = same-kept-same-region
