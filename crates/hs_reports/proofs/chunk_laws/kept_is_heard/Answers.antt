use Rattle.hs_reports.proofs.HeardLemmas.{kept-heard}
use Rattle.hs_reports.proofs.chunk_laws.kept_is_heard.Goals as goal

pub returns : goal.returns
returns c = kept-heard
