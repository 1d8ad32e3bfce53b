use Rattle.hs_base.proofs.PlanLemmas.{plans-once}
use Rattle.hs_base.proofs.region_laws.plans_once.Goals as goal

pub returns : goal.returns
returns c x y same is is2 = plans-once x y same is is2
