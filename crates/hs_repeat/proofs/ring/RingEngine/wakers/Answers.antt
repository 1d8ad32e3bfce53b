use Rattle.std.proofs.Common.{arith}
use Rattle.hs_repeat.proofs.RingLemmas.{ring-asleep}
use Rattle.hs_repeat.proofs.ring.RingEngine.wakers.Goals as goal

pub returns : goal.returns
returns c region byte = ring-asleep c.args.self.now.set c.args.self.now.least c.args.self.now.greatest (omega (arith, c.args.self.now.some)) region byte
