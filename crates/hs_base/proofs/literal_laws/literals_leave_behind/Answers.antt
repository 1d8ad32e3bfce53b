use Rattle.hs_base.proofs.LiteralRowLemmas.{literals-leave_behind}
use Rattle.hs_base.proofs.literal_laws.literals_leave_behind.Goals as goal

pub returns : goal.returns
returns c = literals-leave_behind
