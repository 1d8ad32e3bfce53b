use Rattle.std.proofs.Common.{arith}
use Rattle.hs_base.proofs.ByteSetLemmas.{bit-not}
use Rattle.hs_base.proofs.byte_set.flipped.Goals as goal

pub returns : goal.returns
returns c i h = bit-not c.args.word i (omega arith) h
