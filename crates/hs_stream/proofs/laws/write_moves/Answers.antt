use Rattle.hs_stream.proofs.StandLemmas.{write-moves}
use Rattle.hs_stream.proofs.laws.write_moves.Goals as goal

pub returns : goal.returns
returns c = write-moves
