use Rattle.hs_base.proofs.ChainStreamLemmas.{leaving-goes_on}
use Rattle.hs_base.proofs.leaving_laws.leaving_goes_on.Goals as goal

pub returns : goal.returns
returns c pieces rest piece u now out null fit tells leaves empties =
    leaving-goes_on pieces rest piece u now out null fit tells leaves empties
