use Rattle.hs_base.proofs.BitLemmas.{bit-with_bit}
use Rattle.hs_bits.proofs.bytes.insert_bit.Goals as goal

pub returns-clause-bits : goal.returns-clause-bits
returns-clause-bits c k = bit-with_bit c.args.bytes.now c.args.bit k c.requires
