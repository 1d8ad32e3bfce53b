use Rattle.hs_reports.proofs.HeardLemmas.{byte-tells}
use Rattle.hs_reports.proofs.chunk_laws.byte_tells.Goals as goal

pub returns : goal.returns
returns c = byte-tells
