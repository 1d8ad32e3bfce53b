use Rattle.hs_base.proofs.ChainStreamLemmas.{leaves-last, last-leaves}
use Rattle.hs_base.proofs.leaving_laws.chains_compose.Goals as goal

pub returns : goal.returns
returns c pieces rest piece u next fit = (leaves-last pieces rest piece u next fit, last-leaves pieces rest piece u next fit)
