use Rattle.hs_engine.proofs.AgreementLemmas.{positions-agree}
use Rattle.hs_engine.proofs.laws.positions_agree.Goals as goal

pub returns : goal.returns
returns c = positions-agree
