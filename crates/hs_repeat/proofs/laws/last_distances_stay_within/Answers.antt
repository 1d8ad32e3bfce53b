use Rattle.hs_repeat.proofs.LastLawLemmas.{stay-within}
use Rattle.hs_repeat.proofs.laws.last_distances_stay_within.Goals as goal

pub returns : goal.returns
returns c = stay-within
