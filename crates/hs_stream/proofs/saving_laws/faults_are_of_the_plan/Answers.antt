use Rattle.hs_stream.proofs.SavingLemmas.{faults-planned}
use Rattle.hs_stream.proofs.saving_laws.faults_are_of_the_plan.Goals as goal

pub returns : goal.returns
returns c = faults-planned
