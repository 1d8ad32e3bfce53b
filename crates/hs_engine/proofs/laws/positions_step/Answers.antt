use Rattle.hs_engine.proofs.AgreementLemmas.{reached-steps, steps-reached}
use Rattle.hs_engine.proofs.laws.positions_step.Goals as goal

pub returns : goal.returns
returns c r u entered b entering y len = (reached-steps r u entered b entering y len, steps-reached r u entered b entering y len)
