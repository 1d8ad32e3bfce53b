use Rattle.std.proofs.Common.{◌≡◌, length, ap, sym, subst, ◌∙◌, arith}
use Rattle.std.proofs.lemmas.List.{length-map}
use Rattle.hs_base.specs.LiteralView.{literal_bytes}
use Rattle.hs_compile.proofs.GraphLemmas.{graph-is}
use Rattle.hs_compile.proofs.CopiedLemmas.{copied-there, copies-same}
use Rattle.hs_compile.proofs.JoinLemmas.{ready}
use Rattle.hs_compile.proofs.RunLemmas.{runs-plan}
use Rattle.hs_nodes.specs.Resting.{AreEnginesIdle}
use Rattle.hs_rose.specs.PieceEngines.{piece_meaning}
use Rattle.hs_compile.specs.GraphBuilding.{HasNoOpenings}
use Rattle.hs_compile.specs.GraphWakes.{AreWakeable}
use Rattle.hs_compile.proofs.SoundLemmas.{graph-sound}
use Rattle.hs_compile.proofs.WakeLemmas.{wakeable, wakes-same}
use Rattle.hs_compile.proofs.WakeRowLemmas.{rows-same}
use Rattle.hs_compile.proofs.building.build_graph.Goals as goal

pub built-requires-clause-ready : goal.built-requires-clause-ready
built-requires-clause-ready c = ready c.args.program c.requires.built.entries c.requires.built.chains c.requires.built.is

pub returns-clause-runs : goal.returns-clause-runs
returns-clause-runs c P is =
    runs-plan c.args.program is.entries P is.program is.asks is.fit c.args.layout.now c.requires.fits c.graph_of.result.0
    (graph-is c.args.program c.args.layout.now c.in_ok-parts.parts c.graph_of.result.0 c.in_ok-parts.ensures c.graph_of.ensures.is)

pub wake_table-requires : goal.wake_table-requires
wake_table-requires c =
    let built = c.requires.built in
    let whole = c.in_ok-parts.ensures in
    let t = c.args.program in
    let nodes = c.in_ok-parts.parts.nodes.nodes.items in
    let copies = c.in_ok-parts.parts.nodes.copies.items in
    let count : length t.literals ≡ c.in_ok-literals.literals = omega (arith, c.in_ok-literals.ensures.is, ap length c.literals.ensures, length-map c.literals.result.now literal_bytes) in
    subst (λ n. AreWakeable c.deref.result.now n) count
    (subst (λ ns. AreWakeable ns (length t.literals)) (sym c.deref.ensures.value) (wakeable t c.args.layout.now whole.paths whole.nodes.owned nodes copies (ready t built.entries built.chains built.is) whole.nodes.are))

pub returns-clause-sound : goal.returns-clause-sound
returns-clause-sound c =
    let built = c.requires.built in
    let t = c.args.program in
    let graph = c.graph_of.result.0 in
    let is = c.graph_of.ensures in
    let count : c.in_ok-literals.literals ≡ length t.literals = omega (arith, c.in_ok-literals.ensures.is, ap length c.literals.ensures, length-map c.literals.result.now literal_bytes) in
    graph-sound t built.entries built.chains built.is c.args.layout.now c.requires.fits graph (graph-is t c.args.layout.now c.in_ok-parts.parts graph c.in_ok-parts.ensures is.is) (omega (arith, count, c.in_ok-literals.ensures.few))
    (wakes-same c.deref.result.now graph.table.nodes.items c.in_ok-literals.literals (length t.literals) c.in_ok-wakes.wakes graph.wakes (c.deref.ensures.value ∙ sym is.is.nodes) (sym is.wakes) count c.in_ok-wakes.ensures.sound)
    (rows-same c.deref.result.now graph.table.nodes.items _ graph.table.engines.items c.in_ok-wakes.wakes graph.wakes (c.deref.ensures.value ∙ sym is.is.nodes) (c.engines.ensures ∙ sym is.is.engines) (sym is.wakes) c.in_ok-wakes.ensures.rows)
    (subst (λ es. AreEnginesIdle piece_meaning es) (c.engines-2.ensures ∙ sym is.is.engines) c.in_ok-idle_engines.ensures)
    (copies-same c.in_ok-parts.parts.nodes graph c.in_ok-node_copies.node_copies is.is.nodes is.is.copies is.node_copies c.in_ok-node_copies.ensures)
    (subst (HasNoOpenings (length graph.table.nodes.items) (length t.literals)) (sym is.openings)
    (subst (λ n. HasNoOpenings (length graph.table.nodes.items) n c.in_ok-openings.openings) count
    (subst (λ n. HasNoOpenings n c.in_ok-literals.literals c.in_ok-openings.openings) (omega (arith, c.len.ensures, ap length is.is.nodes, c.in_ok-parts.parts.nodes.nodes.ok.0)) c.in_ok-openings.ensures)))

pub copies_by_node-requires : goal.copies_by_node-requires
copies_by_node-requires c = copied-there c.args.program c.args.layout.now c.in_ok-parts.parts c.in_ok-parts.ensures
