use Rattle.hs_base.proofs.NewEndLemmas.{new-ends}
use Rattle.hs_base.proofs.laws.new_ends_about_byte.Goals as goal

pub returns : goal.returns
returns c = new-ends
