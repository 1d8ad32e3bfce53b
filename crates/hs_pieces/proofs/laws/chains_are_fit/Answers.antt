use Rattle.hs_pieces.proofs.FitLemmas.{chains-fit}
use Rattle.hs_pieces.proofs.laws.chains_are_fit.Goals as goal

pub returns : goal.returns
returns c = chains-fit
