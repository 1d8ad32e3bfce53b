use Rattle.hs_repeat.proofs.LastLawLemmas.{last-moves}
use Rattle.hs_repeat.proofs.laws.last_distance_moves.Goals as goal

pub returns : goal.returns
returns c = last-moves
