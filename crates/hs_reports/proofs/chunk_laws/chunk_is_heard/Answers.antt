use Rattle.hs_reports.proofs.ChunkLemmas.{chunk-heard}
use Rattle.hs_reports.proofs.chunk_laws.chunk_is_heard.Goals as goal

pub returns : goal.returns
returns c = chunk-heard
