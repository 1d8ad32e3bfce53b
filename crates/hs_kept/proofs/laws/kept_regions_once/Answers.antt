use Rattle.hs_kept.proofs.KeptLemmas.{kept-once}
use Rattle.hs_kept.proofs.laws.kept_regions_once.Goals as goal

pub returns : goal.returns
returns c = kept-once
