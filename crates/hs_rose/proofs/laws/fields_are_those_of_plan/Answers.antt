use Rattle.hs_rose.proofs.LawLemmas.{plan-fields}
use Rattle.hs_rose.proofs.laws.fields_are_those_of_plan.Goals as goal

pub returns : goal.returns
returns c = plan-fields
