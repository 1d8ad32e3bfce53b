use Rattle.hs_base.proofs.NewEndLemmas.{last-ends}
use Rattle.hs_base.proofs.laws.last_ends_at_last_byte.Goals as goal

pub returns : goal.returns
returns c = last-ends
