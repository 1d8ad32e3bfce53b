use Rattle.std.proofs.Common.{◌≡◌, length, map, Vec, Global, sym, subst, arith}
use Rattle.std.specs.Vec.{with_items}
use Rattle.std.proofs.lemmas.List.{length-map, with_items_is}
use Rattle.hs_base.specs.LiteralView.{literal_bytes}
use Rattle.hs_forest.specs.Groups.{AreGroups}
use Rattle.hs_nodes.specs.declared.table.Node.{Node}
use Rattle.hs_compile.specs.Arranging.{AreMarkedTo, AreRenumbered}
use Rattle.hs_compile.specs.GraphWakes.{AreWakeable, waking_literals}
use Rattle.hs_compile.proofs.ArrangedLemmas.{plan-kept, sound-kept, wakeable}
use Rattle.hs_compile.proofs.arranging.arrange.Goals as goal

pub literal_groups-requires : goal.literal_groups-requires
literal_groups-requires c =
    let graph = c.args.graph.now in
    let olds = map literal_bytes c.args.named.now in
    let news = map literal_bytes c.in_ok-literals.literals.items in
    let new_nodes = c.renumber.new.nodes in
    let owns : Vec Node Global = with_items graph.table.nodes new_nodes in
    let are : AreRenumbered olds news c.in_ok-nodes.nodes c.in_ok-literals.others graph.table.nodes.items new_nodes =
    subst (λ ns. AreRenumbered olds news c.in_ok-nodes.nodes c.in_ok-literals.others ns new_nodes) c.deref_mut.ensures.value c.in_ok-literals.ensures in
    let items : owns.items ≡ new_nodes = with_items_is graph.table.nodes new_nodes (omega (arith, are.renamed.count, graph.table.nodes.ok.0)) in
    let count : length news ≡ c.len.result = omega (arith, c.len.ensures, length-map c.in_ok-literals.literals.items literal_bytes, c.in_ok-literals.literals.ok.0) in
    subst (λ n. AreWakeable c.deref-2.result.now n) count
    (subst (λ ns. AreWakeable ns (length news)) (sym c.deref-2.ensures.value)
    (wakeable graph olds news owns graph.wakes.literal_starts graph.wakes.literal_nodes (record { nodes = c.in_ok-nodes.nodes; others = c.in_ok-literals.others })
    (subst (λ ns. AreRenumbered olds news c.in_ok-nodes.nodes c.in_ok-literals.others graph.table.nodes.items ns) (sym items) are) (length c.args.named.now) c.requires))

pub returns-clause-sound : goal.returns-clause-sound
returns-clause-sound c l sound =
    let graph = c.args.graph.now in
    let olds = map literal_bytes c.args.named.now in
    let news = map literal_bytes c.in_ok-literals.literals.items in
    let groups = c.in_ok-groups.groups in
    let new_nodes = c.renumber.new.nodes in
    let owns : Vec Node Global = with_items graph.table.nodes new_nodes in
    let are : AreRenumbered olds news c.in_ok-nodes.nodes c.in_ok-literals.others graph.table.nodes.items new_nodes =
    subst (λ ns. AreRenumbered olds news c.in_ok-nodes.nodes c.in_ok-literals.others ns new_nodes) c.deref_mut.ensures.value c.in_ok-literals.ensures in
    let items : owns.items ≡ new_nodes = with_items_is graph.table.nodes new_nodes (omega (arith, are.renamed.count, graph.table.nodes.ok.0)) in
    let count : c.len.result ≡ length news = omega (arith, c.len.ensures, length-map c.in_ok-literals.literals.items literal_bytes, c.in_ok-literals.literals.ok.0) in
    sound-kept graph olds news owns groups.starts groups.list (record { nodes = c.in_ok-nodes.nodes; others = c.in_ok-literals.others })
    (subst (λ ns. AreRenumbered olds news c.in_ok-nodes.nodes c.in_ok-literals.others graph.table.nodes.items ns) (sym items) are) l sound
    (subst (λ ns. AreMarkedTo ns (length ns) c.in_ok-nodes.nodes) c.deref.ensures.value c.in_ok-nodes.ensures)
    (subst (λ n. AreGroups (waking_literals owns.items) n groups.starts.items groups.list.items) count
    (subst (λ ns. AreGroups (waking_literals ns) c.len.result groups.starts.items groups.list.items) c.deref-2.ensures.value c.in_ok-groups.ensures))

pub returns-clause-runs : goal.returns-clause-runs
returns-clause-runs c plan runs =
    let graph = c.args.graph.now in
    let olds = map literal_bytes c.args.named.now in
    let news = map literal_bytes c.in_ok-literals.literals.items in
    let new_nodes = c.renumber.new.nodes in
    let owns : Vec Node Global = with_items graph.table.nodes new_nodes in
    let are : AreRenumbered olds news c.in_ok-nodes.nodes c.in_ok-literals.others graph.table.nodes.items new_nodes =
    subst (λ ns. AreRenumbered olds news c.in_ok-nodes.nodes c.in_ok-literals.others ns new_nodes) c.deref_mut.ensures.value c.in_ok-literals.ensures in
    let items : owns.items ≡ new_nodes = with_items_is graph.table.nodes new_nodes (omega (arith, are.renamed.count, graph.table.nodes.ok.0)) in
    plan-kept graph olds news owns c.in_ok-groups.groups.starts c.in_ok-groups.groups.list (record { nodes = c.in_ok-nodes.nodes; others = c.in_ok-literals.others })
    (subst (λ ns. AreRenumbered olds news c.in_ok-nodes.nodes c.in_ok-literals.others graph.table.nodes.items ns) (sym items) are) plan runs
