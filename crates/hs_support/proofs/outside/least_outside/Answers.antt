use Rattle.hs_support.proofs.OutsideLemmas.{none-beyond}
use Rattle.std.proofs.Common.{arith}
use Rattle.hs_support.proofs.outside.least_outside.Goals as goal

pub returns : goal.returns
returns c = none-beyond c.args.supported c.args.bits 32 (omega arith) (λ k below. c.loop-place.invariant k (omega arith))
