use Rattle.hs_stream.proofs.EmptyLemmas.{streams-well}
use Rattle.hs_stream.proofs.laws.streams_are_well_formed.Goals as goal

pub returns : goal.returns
returns c = streams-well
