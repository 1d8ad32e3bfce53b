use Rattle.hs_repeat.proofs.LastLawLemmas.{last-through}
use Rattle.hs_repeat.proofs.laws.last_distances_are_of_histories.Goals as goal

pub returns : goal.returns
returns c = last-through
