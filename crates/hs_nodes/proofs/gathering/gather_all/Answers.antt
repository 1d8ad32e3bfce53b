use Rattle.std.proofs.Common.{◌≡◌, ◌+◌, ◌*◌, ◌<◌, ℕ, length, subst, arith}
use Rattle.hs_reports.specs.Gathering.{AreEndsBelow}
use Rattle.hs_nodes.specs.Gathering.{left_before, left_behind}
use Rattle.hs_nodes.proofs.GatherLemmas.{IsGatheredTo, gathered-all, gathered-more, gathered-none, gathered-or}
use Rattle.hs_nodes.proofs.gathering.gather_all.Goals as goal

pub loop-k-init : goal.loop-k-init
loop-k-init g c =
    gathered-none c.args.graph.now c.args.ends.now c.args.all.now 0 (omega arith) c.requires.ends c.args.at c.args.table.now c.requires.count c.requires.none

pub loop-k-preserved : goal.loop-k-preserved
loop-k-preserved g c =
    let graph = c.args.graph.now in
    let k : ℕ = c.loop-k.k in
    let below : k < length graph.table.nodes.items = omega (arith, c.loop-k-test.true, c.len-nodes.ensures, c.count_if-k-end.ensures.within) in
    gathered-more graph c.args.ends.now c.args.all.now 0 (omega arith) c.requires.ends c.args.at k c.ends_at-own.result.now c.args.table.now c.loop-k.table c.gather_node.new.table below c.ends_at-own.ensures c.loop-k.invariant c.gather_node.ensures.count
    c.gather_node.ensures.noted c.gather_node.ensures.goes_on

pub returns-clause-gathered : goal.returns-clause-gathered
returns-clause-gathered g c =
    let graph = c.args.graph.now in
    let ends = c.args.ends.now in
    let all = c.args.all.now in
    let nodes : ℕ = length graph.table.nodes.items in
    let done : c.loop-k.k ≡ c.count_if-k-end.result = omega (arith, c.loop-k-test.false, c.loop-k.auto.k-end) in
    let size : c.len-nodes.result ≡ nodes = omega (arith, c.len-nodes.ensures, graph.table.nodes.ok) in
    let here : IsGatheredTo graph ends all 0 c.args.at nodes c.args.table.now c.loop-k.table =
    gathered-or graph ends all 0 (omega arith) c.requires.ends c.args.at c.loop-k.k c.args.is_any c.args.table.now c.loop-k.table (omega (arith, done, size, c.count_if-k-end.ensures.within)) (λ wanted. omega (arith, done, size, c.count_if-k-end.ensures.whole wanted)) c.requires.nowhere c.loop-k.invariant in
    let start : c.args.at ≡ c.args.at + 64 * 0 = omega arith in
    subst (λ at. AreEndsBelow graph.terminals.items (left_before ends all 0) (left_behind ends all 0) at (nodes + 1) c.gather_node-2.new.table) start
    (gathered-all graph ends all 0 (omega arith) c.requires.ends c.args.at c.len-nodes.result c.args.table.now c.loop-k.table c.gather_node-2.new.table (omega (arith, c.len-nodes.ensures, graph.table.nodes.ok)) here c.gather_node-2.ensures.goes_on)
