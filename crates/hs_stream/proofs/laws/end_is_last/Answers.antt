use Rattle.hs_stream.proofs.StandLemmas.{end-last}
use Rattle.hs_stream.proofs.laws.end_is_last.Goals as goal

pub returns : goal.returns
returns c = end-last
