use Rattle.hs_dbfile.proofs.StateLemmas as states
use Rattle.hs_dbfile.proofs.laws.states_read_once.Goals as goal

pub returns : goal.returns
returns c bytes digest = states.states_read_once bytes digest
