use Rattle.hs_kept.proofs.KeptLemmas.{kept-well}
use Rattle.hs_kept.proofs.laws.kept_regions_are_well.Goals as goal

pub returns : goal.returns
returns c = kept-well
