use Rattle.hs_reports.proofs.ChunkLemmas.{chunk-new}
use Rattle.hs_reports.proofs.chunk_laws.chunk_is_new.Goals as goal

pub returns : goal.returns
returns c = chunk-new
