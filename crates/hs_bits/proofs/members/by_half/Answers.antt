use Rattle.hs_bits.proofs.MemberLemmas.{half-lanes}
use Rattle.hs_bits.proofs.members.by_half.Goals as goal

pub returns : goal.returns
returns c = half-lanes c.args.lanes c.args.first c.args.second 16 c.fits-lanes.0
