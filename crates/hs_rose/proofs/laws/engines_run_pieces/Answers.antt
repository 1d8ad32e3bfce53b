use Rattle.hs_rose.proofs.LawLemmas.{engine-runs}
use Rattle.hs_rose.proofs.laws.engines_run_pieces.Goals as goal

pub returns : goal.returns
returns c = engine-runs
