use Rattle.hs_fdr.proofs.LaneLemmas.{lanes_later}
use Rattle.hs_fdr.proofs.lanes.later.Goals as goal

pub returns : goal.returns
returns c = lanes_later c.args.lanes c.fits-lanes.0
