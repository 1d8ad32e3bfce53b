use Rattle.hs_bits.proofs.PlaceLemmas.{bit-placed}
use Rattle.hs_bits.proofs.places.with_place.Goals as goal

pub returns : goal.returns
returns c = bit-placed c.args.word c.args.place c.args.value c.requires
