use Rattle.hs_base.proofs.ReportLemmas.{reports-longer}
use Rattle.hs_base.proofs.stream_laws.reports_stay.Goals as goal

pub returns : goal.returns
returns c = reports-longer
