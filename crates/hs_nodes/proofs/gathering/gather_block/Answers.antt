use Rattle.std.proofs.Common.{◌+◌, ◌*◌, ◌<◌, ℕ, length, arith}
use Rattle.hs_nodes.proofs.GatherLemmas.{IsGatheredTo, gathered-all, gathered-more, gathered-none, gathered-passed}
use Rattle.hs_nodes.proofs.gathering.gather_block.Goals as goal

pub loop-k-init : goal.loop-k-init
loop-k-init g c =
    gathered-none c.args.graph.now c.args.ends.now c.args.all.now c.args.block c.requires.block c.requires.ends (c.args.at + 64 * c.args.block) c.args.table.now c.requires.count c.requires.none

pub loop-k-preserved : goal.loop-k-preserved
loop-k-preserved g c =
    let graph = c.args.graph.now in
    let ends = c.args.ends.now in
    let all = c.args.all.now in
    let k = c.in-Some.k in
    let at : ℕ = c.args.at + 64 * c.args.block in
    let below : k < length graph.table.nodes.items = c.requires.known k c.in-Some.ensures.is in
    let here : IsGatheredTo graph ends all c.args.block at k c.args.table.now c.loop-k.table =
    gathered-passed graph ends all c.args.block c.requires.block c.requires.ends at c.loop-k.from k c.args.table.now c.loop-k.table c.in-Some.ensures.low (omega (arith, below))
    (λ j low high. c.requires.rest j (omega (arith, high, below)) (c.in-Some.ensures.least j low high)) c.loop-k.invariant in
    gathered-more graph ends all c.args.block c.requires.block c.requires.ends at k c.ends_at-own.result.now c.args.table.now c.loop-k.table c.gather_node.new.table below c.ends_at-own.ensures here c.gather_node.ensures.count
    c.gather_node.ensures.noted c.gather_node.ensures.goes_on

pub returns-clause-gathered : goal.returns-clause-gathered
returns-clause-gathered g c =
    let graph = c.args.graph.now in
    let ends = c.args.ends.now in
    let all = c.args.all.now in
    let nodes : ℕ = length graph.table.nodes.items in
    let at : ℕ = c.args.at + 64 * c.args.block in
    let here : IsGatheredTo graph ends all c.args.block at nodes c.args.table.now c.loop-k.table =
    gathered-passed graph ends all c.args.block c.requires.block c.requires.ends at c.loop-k.from nodes c.args.table.now c.loop-k.table c.loop-k.invariant.within (omega arith)
    (λ j low high. c.requires.rest j high (c.in_default.ensures j low (omega (arith, high, c.requires.marks)))) c.loop-k.invariant in
    gathered-all graph ends all c.args.block c.requires.block c.requires.ends at c.len.result c.args.table.now c.loop-k.table c.gather_node-2.new.table (omega (arith, c.len.ensures, graph.table.nodes.ok)) here c.gather_node-2.ensures.goes_on
