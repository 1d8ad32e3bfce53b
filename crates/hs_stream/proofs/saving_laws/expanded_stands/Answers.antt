use Rattle.hs_stream.proofs.SavingLemmas.{expanded-stands}
use Rattle.hs_stream.proofs.saving_laws.expanded_stands.Goals as goal

pub returns : goal.returns
returns c = expanded-stands
