use Rattle.hs_base.proofs.RegionLemmas.{regions-well}
use Rattle.hs_base.proofs.region_laws.regions_are_well_formed.Goals as goal

pub returns : goal.returns
returns c plan u region is = regions-well plan u region is
