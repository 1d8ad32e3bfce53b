use Rattle.hs_base.proofs.ReportLemmas.{reports-ended}
use Rattle.hs_base.proofs.stream_laws.reports_stay_at_end.Goals as goal

pub returns : goal.returns
returns c = reports-ended
