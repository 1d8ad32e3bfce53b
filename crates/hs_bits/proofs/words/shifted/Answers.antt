use Rattle.hs_bits.proofs.WordLemmas.{shifted-bit}
use Rattle.hs_bits.proofs.words.shifted.Goals as goal

pub returns : goal.returns
returns c i below = shifted-bit c.args.word c.args.distance c.args.carry i below
