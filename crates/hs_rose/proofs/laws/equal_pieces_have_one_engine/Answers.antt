use Rattle.hs_rose.proofs.LawLemmas.{one-engine}
use Rattle.hs_rose.proofs.laws.equal_pieces_have_one_engine.Goals as goal

pub returns : goal.returns
returns c = one-engine
