use Rattle.hs_nodes.proofs.LeavingLemmas.{first-bit}
use Rattle.hs_nodes.proofs.leaving.ends_if.Goals as goal

pub returns : goal.returns
returns c = first-bit c.args.left
