use Rattle.hs_reports.proofs.GatheringLemmas.{gathering-passes}
use Rattle.hs_reports.proofs.gathering_laws.gathering_passes.Goals as goal

pub returns : goal.returns
returns c = gathering-passes
