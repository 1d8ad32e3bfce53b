use Rattle.hs_base.proofs.RegionStartLemmas.{regions-begin}
use Rattle.hs_base.proofs.region_laws.regions_begin.Goals as goal

pub returns : goal.returns
returns c = regions-begin
