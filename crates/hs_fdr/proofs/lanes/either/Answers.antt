use Rattle.hs_fdr.proofs.LaneLemmas.{lanes_either}
use Rattle.hs_fdr.proofs.lanes.either.Goals as goal

pub returns : goal.returns
returns c = lanes_either c.args.a c.args.b c.fits-a.0 c.fits-b.0
