use Rattle.hs_run.proofs.JoinLemmas.{can-run}
use Rattle.hs_run.proofs.laws.built_programs_can_run.Goals as goal

pub returns : goal.returns
returns c t entries chains is = can-run t entries chains is
