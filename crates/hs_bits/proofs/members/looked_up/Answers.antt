use Rattle.hs_bits.proofs.MemberLemmas.{places-fit, looked-lanes}
use Rattle.hs_bits.proofs.members.looked_up.Goals as goal

pub swizzle : goal.swizzle
swizzle c = places-fit c.args.places c.fits-places.0 c.requires

pub returns : goal.returns
returns c = looked-lanes c.args.table c.args.places c.fits-places.0 c.requires
