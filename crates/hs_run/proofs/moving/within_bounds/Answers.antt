use Rattle.std.proofs.Common.{arith}
use Rattle.hs_run.proofs.moving.within_bounds.Goals as goal

pub returns : goal.returns
returns c next = (λ is. (omega arith, omega arith, is), λ (above, below, is). is)
