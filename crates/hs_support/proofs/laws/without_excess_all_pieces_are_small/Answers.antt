use Rattle.hs_support.proofs.ExcessLemmas.{chains-few, few-chains}
use Rattle.hs_support.proofs.laws.without_excess_all_pieces_are_small.Goals as goal

pub returns : goal.returns
returns c chains = (chains-few chains, few-chains chains)
