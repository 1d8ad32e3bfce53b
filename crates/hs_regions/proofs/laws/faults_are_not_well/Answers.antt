use Rattle.hs_regions.proofs.WellLemmas.{fault-never}
use Rattle.hs_regions.proofs.laws.faults_are_not_well.Goals as goal

pub returns : goal.returns
returns c = fault-never
