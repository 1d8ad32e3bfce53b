use Rattle.hs_engine.proofs.AgreementLemmas.{leaves-accepting, accepting-leaves}
use Rattle.hs_engine.proofs.laws.positions_leave.Goals as goal

pub returns : goal.returns
returns c t u entered next plain free = (leaves-accepting t u entered next plain free, accepting-leaves t u entered next plain free)
