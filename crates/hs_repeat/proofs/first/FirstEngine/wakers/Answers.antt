use Rattle.std.proofs.Common.{arith}
use Rattle.hs_repeat.proofs.FirstLemmas.{first-asleep}
use Rattle.hs_repeat.proofs.first.FirstEngine.wakers.Goals as goal

pub returns : goal.returns
returns c region byte = first-asleep c.args.self.now.farthest.set c.args.self.now.farthest.bound (omega (arith, c.args.self.now.farthest.some)) region byte
