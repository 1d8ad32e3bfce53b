use Rattle.hs_waking.proofs.PrevLemmas.{start-member}
use Rattle.hs_waking.proofs.prev_set.PrevSet.is_start.Goals as goal

pub returns : goal.returns
returns c = start-member c.args.self
