use Rattle.hs_nodes.proofs.LeavingLemmas.{first-leaves}
use Rattle.hs_nodes.proofs.leaving.leaves_first.Goals as goal

pub returns : goal.returns
returns c = first-leaves c.args.len c.args.hits.now c.requires.some
