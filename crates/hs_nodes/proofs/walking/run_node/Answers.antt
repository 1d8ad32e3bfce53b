use Rattle.std.proofs.Common.{◌≡◌, ◌∙◌, ℕ, Option, Some, ◌+◌, ◌≤◌, length, refl, slice_get, sym, ap, subst}
use Rattle.hs_lazy.specs.Caches.{told}
use Rattle.hs_nodes.specs.Pooled.{ArePooled}
use Rattle.hs_nodes.specs.Walks.{entering_ends}
use Rattle.hs_nodes.specs.declared.ends.ChunkEnds.{ChunkEnds}
use Rattle.hs_nodes.specs.Starting.{IsEnteredThroughout}
use Rattle.hs_waking.specs.EntryRows.{DoEntriesSuffice}
use Rattle.hs_waking.specs.Starts.{starts_at}
use Rattle.hs_nodes.proofs.StartingLemmas.{everywhere-set}
use Rattle.hs_nodes.specs.Nodes.{most_ticks}
use Rattle.hs_nodes.specs.declared.table.Node.{Node}
use Rattle.hs_nodes.proofs.KindLemmas.{one-value}
use Rattle.hs_nodes.proofs.NodeLemmas.{node-run}
use Rattle.hs_nodes.proofs.walking.run_node.Goals as goal

pub run_kind-requires-clause-starts : goal.run_kind-requires-clause-starts
run_kind-requires-clause-starts g c k is untold number null e kind_is at =
    let (no_parent, same) = c.first_number.ensures k is in
    subst (λ i. DoEntriesSuffice (g.E.Engine.meaning e) (starts_at c.args.found.now.foretold.now.starts.now i) c.args.chunk.now.prev c.args.chunk.now.bytes.now) (sym same)
    (c.requires.starts c.args.k c.node_at-node.result c.node_at-node.ensures no_parent (ap (told c.args.found.now.foretold.now.cache.now) (sym same) ∙ untold) number null e kind_is (subst (λ es. slice_get es number ≡ Some e) c.deref.ensures.value at))

pub run_kind-requires-clause-entered : goal.run_kind-requires-clause-entered
run_kind-requires-clause-entered g c k is =
    let (no_parent, place) = c.first_number.ensures k is in
    let bytes = c.args.chunk.now.bytes.now in
    let all = c.args.found.now.all.now in
    let same : c.entering-enters.result.now ≡ all = c.entering-enters.ensures ∙ ap (λ (p : Option ℕ). entering_ends p all c.args.ends.now) no_parent in
    subst (λ (es : ChunkEnds). IsEnteredThroughout es bytes) (sym same) (everywhere-set bytes all c.requires.everywhere)

pub returns-clause-runs : goal.returns-clause-runs
returns-clause-runs g c =
    node-run g.E.Engine.meaning c.args.table.now c.args.k c.requires.sound.0 (length c.args.region.now) c.node_at-node.result c.args.region.now c.run_kind.new.part c.args.chunk.now.prev c.args.chunk.now.at c.args.chunk.now.past.now c.args.chunk.now.bytes.now
    c.args.found.now.foretold.now.hits.now c.args.found.now.all.now c.entering-enters.result.now c.run_kind.result c.args.ends.now c.deref.result.now c.requires.sound.1 refl c.node_at-node.ensures c.run_kind.ensures.len c.requires.ends c.entering-enters.ensures c.deref.ensures.value
    c.run_kind.ensures.well c.run_kind.ensures.takes

pub returns-clause-ticks : goal.returns-clause-ticks
returns-clause-ticks g c node at =
    subst (λ (n : Node). c.run_kind.new.steps ≤ c.args.steps.now + most_ticks n.kind c.args.found.now.foretold.now.hits.now (length c.args.chunk.now.bytes.now)) (one-value c.node_at-node.result node (slice_get c.args.table.now.nodes.items c.args.k) c.node_at-node.ensures at) c.run_kind.ensures.ticks

pub run_kind-requires-clause-told : goal.run_kind-requires-clause-told
run_kind-requires-clause-told g c k t is some number null e kind_is at =
    let (no_parent, same) = c.first_number.ensures k is in
    c.requires.told c.node_at-node.result t c.node_at-node.ensures (ap (told c.args.found.now.foretold.now.cache.now) (sym same) ∙ some) number null e kind_is (subst (λ es. slice_get es number ≡ Some e) c.deref.ensures.value at)

pub run_kind-requires-clause-pool : goal.run_kind-requires-clause-pool
run_kind-requires-clause-pool g c = subst (λ es. ArePooled g.E.Engine.meaning es c.args.pool.now) (sym c.deref.ensures.value) c.requires.pool

pub returns-clause-pool : goal.returns-clause-pool
returns-clause-pool g c = subst (λ es. ArePooled g.E.Engine.meaning es c.run_kind.new.pool) c.deref.ensures.value c.run_kind.ensures.pool
