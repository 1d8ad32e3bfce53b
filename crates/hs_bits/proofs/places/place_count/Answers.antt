use Rattle.hs_bits.proofs.CountLemmas.{ones-of_whole}
use Rattle.hs_bits.proofs.places.place_count.Goals as goal

pub returns : goal.returns
returns c count few rest = ones-of_whole c.args.word count c.ranges.word.fits few rest
