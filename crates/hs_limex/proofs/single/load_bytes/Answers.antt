use Rattle.hs_limex.proofs.SingleLemmas.{no-byte, one-byte}
use Rattle.hs_limex.proofs.single.load_bytes.Goals as goal

pub returns-in-0 : goal.returns-in-0
returns-in-0 c k = no-byte c.args.bytes.now k c.in-0.is

pub returns-in-1 : goal.returns-in-1
returns-in-1 c k = one-byte c.args.bytes.now c.with_byte.result k c.in-1.is (c.with_byte.ensures k)
