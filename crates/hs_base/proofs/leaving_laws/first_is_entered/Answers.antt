use Rattle.hs_base.proofs.EntryLemmas.{first-entered}
use Rattle.hs_base.proofs.leaving_laws.first_is_entered.Goals as goal

pub returns : goal.returns
returns c = first-entered
