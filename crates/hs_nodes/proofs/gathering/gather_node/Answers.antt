use Rattle.hs_nodes.proofs.gathering.gather_node.Goals as goal
use Rattle.hs_nodes.proofs.GatherLemmas.{node-gathers, node-passed}

pub returns-clause-goes_on : goal.returns-clause-goes_on
returns-clause-goes_on g c =
    node-gathers g.E.Engine.meaning c.args.graph.now c.requires.sound c.args.node c.args.at c.args.before c.args.behind c.terminals_of.result.now c.args.table.now c.add_all.new.self c.requires.there c.terminals_of.ensures
    c.add_all.ensures

pub returns-then-behind-eq0-clause-goes_on : goal.returns-then-behind-eq0-clause-goes_on
returns-then-behind-eq0-clause-goes_on g c =
    node-passed g.E.Engine.meaning c.args.graph.now c.requires.sound c.args.node c.args.at c.args.before c.args.behind c.args.table.now c.if-before-eq0.true c.if-behind-eq0.true
