use Rattle.hs_reports.proofs.GatheringLemmas.{gathering-ends}
use Rattle.hs_reports.proofs.gathering_laws.gathering_ends.Goals as goal

pub returns : goal.returns
returns c = gathering-ends
