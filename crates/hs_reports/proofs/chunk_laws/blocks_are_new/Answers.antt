use Rattle.hs_reports.proofs.ChunkLemmas.{blocks-new}
use Rattle.hs_reports.proofs.chunk_laws.blocks_are_new.Goals as goal

pub returns : goal.returns
returns c = blocks-new
