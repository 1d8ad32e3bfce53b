use Rattle.hs_stream.proofs.StandLemmas.{fresh-stands}
use Rattle.hs_stream.proofs.laws.fresh_stands.Goals as goal

pub returns : goal.returns
returns c = fresh-stands
