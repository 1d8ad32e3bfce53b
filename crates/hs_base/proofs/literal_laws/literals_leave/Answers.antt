use Rattle.hs_base.proofs.LiteralRowLemmas.{literals-leave}
use Rattle.hs_base.proofs.literal_laws.literals_leave.Goals as goal

pub returns : goal.returns
returns c = literals-leave
