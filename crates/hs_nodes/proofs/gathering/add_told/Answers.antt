use Rattle.hs_nodes.proofs.GatherLemmas.{told-added}
use Rattle.hs_nodes.proofs.gathering.add_told.Goals as goal

pub returns : goal.returns
returns g c = told-added c.args.graph.now c.args.node c.args.own.now c.args.busy.now c.add_busy.new.busy c.add_busy.ensures
