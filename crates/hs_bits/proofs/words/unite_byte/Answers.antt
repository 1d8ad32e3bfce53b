use Rattle.std.proofs.Common.{arith}
use Rattle.hs_bits.proofs.WordLemmas.{bits-united_byte}
use Rattle.hs_bits.proofs.words.unite_byte.Goals as goal

pub returns-clause-bits : goal.returns-clause-bits
returns-clause-bits c k = bits-united_byte c.args.words.now c.args.bytes.now c.args.place k c.requires.room (omega (arith, c.type_inv.bytes c.args.place))
