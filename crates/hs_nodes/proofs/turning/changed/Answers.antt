use Rattle.hs_nodes.proofs.TurnLemmas.{changed-bit}
use Rattle.hs_nodes.proofs.turning.changed.Goals as goal

pub returns : goal.returns
returns c = changed-bit c.args.word c.args.count c.args.mask c.requires.mask
