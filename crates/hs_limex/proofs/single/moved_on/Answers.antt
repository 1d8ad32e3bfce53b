use Rattle.hs_limex.proofs.SingleLemmas.{moved-bit}
use Rattle.hs_limex.proofs.single.moved_on.Goals as goal

pub returns : goal.returns
returns c k small = moved-bit c.args.live c.args.row c.args.distance k small
