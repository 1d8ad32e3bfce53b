use Rattle.hs_stream.proofs.SavingLemmas.{expanded-on}
use Rattle.hs_stream.proofs.saving_laws.expanded_goes_on.Goals as goal

pub returns : goal.returns
returns c = expanded-on
