use Rattle.hs_run.proofs.PlanLemmas.{runs-plan}
use Rattle.hs_run.proofs.laws.built_programs_run.Goals as goal

pub returns : goal.returns
returns c t entries P is asks fit = runs-plan t entries P is asks fit
