use Rattle.hs_reports.proofs.GatheringLemmas.{gathering-begins}
use Rattle.hs_reports.proofs.gathering_laws.gathering_begins.Goals as goal

pub returns : goal.returns
returns c = gathering-begins
