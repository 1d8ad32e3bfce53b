use Rattle.hs_request.proofs.TakenLemmas.{taken_if, none_if}
use Rattle.hs_request.proofs.laws.taken_exactly.Goals as goal

pub returns : goal.returns
returns c words = (none_if words, taken_if words)
