use Rattle.hs_script.proofs.RunLemmas as runs
use Rattle.hs_script.proofs.laws.complete.Goals as goal

pub returns : goal.returns
returns c basis from front back action answers after r = runs.through front back action r
