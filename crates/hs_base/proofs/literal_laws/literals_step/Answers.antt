use Rattle.hs_base.proofs.LiteralRowLemmas.{literals-step}
use Rattle.hs_base.proofs.literal_laws.literals_step.Goals as goal

pub returns : goal.returns
returns c = literals-step
