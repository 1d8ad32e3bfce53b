use Rattle.std.proofs.Common.{◌+◌, ◌*◌, ℕ, length, subst, arith}
use Rattle.hs_nodes.proofs.GatherLemmas.{IsGatheredTo, gathered-all, gathered-none, gathered-untold}
use Rattle.hs_nodes.proofs.gathering.gather_left.Goals as goal

pub returns-clause-gathered : goal.returns-clause-gathered
returns-clause-gathered g c =
    let graph = c.args.graph.now in
    let left = c.args.left.now in
    let block : ℕ = c.args.block in
    let at : ℕ = c.args.at + 64 * block in
    let nodes : ℕ = length graph.table.nodes.items in
    let here : IsGatheredTo graph left.ends.now left.all.now block at nodes c.args.table.now c.args.table.now =
    subst (λ n. IsGatheredTo graph left.ends.now left.all.now block at n c.args.table.now c.args.table.now) (omega arith)
    (gathered-untold graph left.ends.now left.all.now block c.requires.block c.requires.ends c.requires.sound at 0 nodes c.args.table.now c.args.table.now (omega arith) (λ k low high. c.requires.busy block k c.requires.block c.if-left-block-ne0.false)
    (gathered-none graph left.ends.now left.all.now block c.requires.block c.requires.ends at c.args.table.now c.requires.count c.requires.none)) in
    gathered-all graph left.ends.now left.all.now block c.requires.block c.requires.ends at c.len.result c.args.table.now c.args.table.now c.gather_node.new.table (omega (arith, c.len.ensures, graph.table.nodes.ok)) here c.gather_node.ensures.goes_on
