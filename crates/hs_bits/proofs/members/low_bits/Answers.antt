use Rattle.hs_bits.proofs.MemberLemmas.{low-lanes}
use Rattle.hs_bits.proofs.members.low_bits.Goals as goal

pub returns : goal.returns
returns c = low-lanes c.args.lanes 16 c.fits-lanes.0
