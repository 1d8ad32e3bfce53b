use Rattle.hs_bits.proofs.WordLemmas.{bits-with_bit}
use Rattle.hs_bits.proofs.words.insert_word_bit.Goals as goal

pub returns-clause-bits : goal.returns-clause-bits
returns-clause-bits c k = bits-with_bit c.args.words.now c.args.bit k c.requires
