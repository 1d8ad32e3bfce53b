use Rattle.hs_repeat.proofs.LastLawLemmas.{left-by}
use Rattle.hs_repeat.proofs.laws.last_is_left_by_distance.Goals as goal

pub returns : goal.returns
returns c = left-by
