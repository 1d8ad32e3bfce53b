use Rattle.std.proofs.Common.{arith}
use Rattle.hs_fdr.proofs.LaneLemmas.{lanes_on}
use Rattle.hs_fdr.proofs.lanes.one_on.Goals as goal

pub returns : goal.returns
returns c = lanes_on c.args.lanes 1 c.fits-lanes.0 (omega arith)
