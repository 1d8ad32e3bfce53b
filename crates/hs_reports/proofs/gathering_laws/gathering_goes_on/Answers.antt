use Rattle.hs_reports.proofs.GatheringLemmas.{gathering-goes_on}
use Rattle.hs_reports.proofs.gathering_laws.gathering_goes_on.Goals as goal

pub returns : goal.returns
returns c = gathering-goes_on
