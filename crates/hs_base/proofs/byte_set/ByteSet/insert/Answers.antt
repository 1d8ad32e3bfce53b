use Rattle.std.proofs.Common.{arith}
use Rattle.hs_base.specs.ByteSets.{has}
use Rattle.hs_base.proofs.ByteSetLemmas.{bit-with_bit}
use Rattle.hs_base.proofs.byte_set.ByteSet.insert.Goals as goal

pub returns : goal.returns
unfolding has
returns c b h = bit-with_bit c.args.self.now.words c.args.byte b (omega arith) (omega arith)
