use Rattle.std.proofs.Common.{arith}
use Rattle.hs_bits.proofs.WordLemmas.{carried-bit}
use Rattle.hs_bits.proofs.words.carried.Goals as goal

pub returns : goal.returns
returns c i = carried-bit c.args.word c.args.distance i c.requires (omega (arith, c.ranges.word.fits))
