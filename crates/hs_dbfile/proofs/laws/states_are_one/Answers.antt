use Rattle.hs_dbfile.proofs.StateLemmas as states
use Rattle.hs_dbfile.proofs.laws.states_are_one.Goals as goal

pub returns : goal.returns
returns c bytes digest digest' region region' p q = states.states_are_one bytes digest digest' region region' p q
