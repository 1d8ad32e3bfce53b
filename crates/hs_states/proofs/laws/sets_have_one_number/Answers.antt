use Rattle.hs_states.proofs.SetLemmas.{one-number}
use Rattle.hs_states.proofs.laws.sets_have_one_number.Goals as goal

pub returns : goal.returns
returns c sets tree bytes stands i j are one other = one-number sets tree are bytes stands i j one other
