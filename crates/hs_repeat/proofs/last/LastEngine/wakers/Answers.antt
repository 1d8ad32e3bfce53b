use Rattle.hs_repeat.proofs.LastLemmas.{last-asleep}
use Rattle.hs_repeat.proofs.last.LastEngine.wakers.Goals as goal

pub returns : goal.returns
returns c region byte = last-asleep c.args.self.now.nearest.set c.args.self.now.nearest.bound region byte
