use Rattle.hs_stream.proofs.SavingLemmas.{histories-taken}
use Rattle.hs_stream.proofs.saving_laws.histories_are_taken.Goals as goal

pub returns : goal.returns
returns c = histories-taken
