use Rattle.std.proofs.Common.{arith}
use Rattle.hs_bits.proofs.ContextLemmas.{classes-none}
use Rattle.hs_bits.proofs.contexts.Classes.new.Goals as goal

pub loop-place-init : goal.loop-place-init
loop-place-init c = (omega arith, classes-none c.args.bytes.now)
