use Rattle.hs_bits.proofs.LowestLemmas.{lowest-is}
use Rattle.hs_bits.proofs.lowest.lowest_bit.Goals as goal

pub returns-clause-lowest : goal.returns-clause-lowest
returns-clause-lowest c = lowest-is c.args.word c.requires c.ranges.word.fits
