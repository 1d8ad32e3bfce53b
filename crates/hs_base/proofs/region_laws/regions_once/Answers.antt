use Rattle.hs_base.proofs.RegionLemmas.{regions-once}
use Rattle.hs_base.proofs.region_laws.regions_once.Goals as goal

pub returns : goal.returns
returns c plan u xs ys is is2 = regions-once plan u xs ys is is2
