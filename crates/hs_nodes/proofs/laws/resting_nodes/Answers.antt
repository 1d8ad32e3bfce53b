use Rattle.hs_nodes.proofs.SettleLemmas.{resting-may, resting-stay}
use Rattle.hs_nodes.proofs.laws.resting_nodes.Goals as goal

pub returns-clause-may : goal.returns-clause-may
returns-clause-may g c = resting-may g.E.Engine.meaning c.args.table.now

pub returns-clause-stay : goal.returns-clause-stay
returns-clause-stay g c = resting-stay g.E.Engine.meaning c.args.table.now
