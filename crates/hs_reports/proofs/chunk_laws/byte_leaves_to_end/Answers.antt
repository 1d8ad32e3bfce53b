use Rattle.hs_reports.proofs.HeardLemmas.{byte-leaves}
use Rattle.hs_reports.proofs.chunk_laws.byte_leaves_to_end.Goals as goal

pub returns : goal.returns
returns c = byte-leaves
