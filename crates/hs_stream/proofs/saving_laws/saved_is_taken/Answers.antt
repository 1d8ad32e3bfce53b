use Rattle.hs_stream.proofs.SavingLemmas.{saved-taken}
use Rattle.hs_stream.proofs.saving_laws.saved_is_taken.Goals as goal

pub returns : goal.returns
returns c = saved-taken
