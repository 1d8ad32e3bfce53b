use Rattle.hs_bits.proofs.MemberLemmas.{entry-lanes}
use Rattle.hs_bits.proofs.members.entries_of.Goals as goal

pub returns : goal.returns
returns c = entry-lanes c.args.lanes 16 c.fits-lanes.0
