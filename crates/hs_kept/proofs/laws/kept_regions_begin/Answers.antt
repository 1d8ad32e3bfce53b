use Rattle.hs_kept.proofs.KeptLemmas.{kept-begins}
use Rattle.hs_kept.proofs.laws.kept_regions_begin.Goals as goal

pub returns : goal.returns
returns c = kept-begins
