use Rattle.hs_reports.proofs.ChunkLemmas.{chunk-stays}
use Rattle.hs_reports.proofs.chunk_laws.chunk_stays_heard.Goals as goal

pub returns : goal.returns
returns c = chunk-stays
