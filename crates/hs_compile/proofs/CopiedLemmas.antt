-- The copies of fields, by the nodes that they are of.
use Rattle.std.proofs.Common.{◌≡◌, suc, List, length, Some, sym, subst, arith}
use Rattle.std.specs.Prelude.{slice_index}
use Rattle.std.proofs.lemmas.List.{length-map}
use Rattle.std.proofs.lemmas.Option.{same_Some, slice_get_within}
use Rattle.hs_forest.proofs.MemberLemmas.{grouped, listed}
use Rattle.hs_forest.specs.Groups.{AreGroups, AreOwners}
use Rattle.hs_layout.specs.Layouts.{Laid}
use Rattle.hs_nodes.specs.Graphs.{AreCopiesByNode}
use Rattle.hs_nodes.specs.declared.graph.FieldCopy.{FieldCopy}
use Rattle.hs_nodes.specs.declared.graph.Graph.{Graph}
use Rattle.hs_nodes.specs.declared.graph.NodeCopies.{NodeCopies}
use Rattle.hs_nodes.specs.declared.table.Node.{Node}
use Rattle.hs_rose.specs.Programs.{Tables}
use Rattle.hs_rose.specs.declared.engine.PieceEngine.{PieceEngine}
use Rattle.hs_rose.proofs.ListLemmas.{get-map, map-get}
use Rattle.hs_compile.specs.GraphBuilding.{AreParts}
use Rattle.hs_compile.specs.GraphNodes.{AreCopiedNodesThere, nodes_copied}
use Rattle.hs_compile.specs.declared.building.GraphParts.{GraphParts}
use Rattle.hs_compile.specs.declared.node_lists.NodeLists.{NodeLists}

-- the nodes of copies are there
pub copied-there : (t : Tables) (l : Laid) (parts : GraphParts) → AreParts t l parts → AreCopiedNodesThere parts.nodes
copied-there t l parts are i copy at =
    let nodes = are.nodes.are in
    let known = (nodes.copies_are i copy at).known in
    omega (arith, known, nodes.count)

-- so they are owners
pub copied-owners : (lists : NodeLists) → AreCopiedNodesThere lists → AreOwners (nodes_copied lists.copies.items) (length lists.nodes.items)
copied-owners lists there i k at =
    let (copy, own, same) = map-get (λ (c : FieldCopy). Some c.node) lists.copies.items i (Some k) at in
    let e : copy.node ≡ k = same_Some copy.node k same in
    omega (arith, there i copy own, e)

-- and the groups of copies are those of their nodes
pub grouped-copies : (lists : NodeLists) (by_node : NodeCopies) → AreCopiedNodesThere lists → AreGroups (nodes_copied lists.copies.items) (length lists.nodes.items) by_node.starts.items by_node.numbers.items →
    AreCopiesByNode lists.copies.items (length lists.nodes.items) by_node
grouped-copies lists by_node there groups =
    let owners = nodes_copied lists.copies.items in
    let count = length lists.nodes.items in
    let starts = by_node.starts.items in
    let numbers = by_node.numbers.items in record {
      count_is = groups.count_is;
      within = λ k low. omega (arith, groups.rising (suc k) count (omega (arith, low)) (omega arith), groups.last);
      there = λ i low.
          let own = grouped owners count starts numbers groups i low in
          omega (arith, slice_get_within owners (slice_index numbers i) (Some own.k) own.owner, length-map lists.copies.items (λ (c : FieldCopy). Some c.node));
      among = λ i copy at.
          let own = listed owners count starts numbers groups i copy.node (there i copy at) (get-map (λ (c : FieldCopy). Some c.node) lists.copies.items i copy at) in
          record { place = own.place; low = own.low; high = own.high; is = own.is };
    }

-- those of a graph that has them
pub copies-same : (lists : NodeLists) (graph : Graph PieceEngine) (by_node : NodeCopies) → graph.table.nodes.items ≡ lists.nodes.items → graph.copies.items ≡ lists.copies.items → graph.node_copies ≡ by_node →
    AreCopiesByNode lists.copies.items (length lists.nodes.items) by_node → AreCopiesByNode graph.copies.items (length graph.table.nodes.items) graph.node_copies
copies-same lists graph by_node nodes copies same are =
    subst (λ (b : NodeCopies). AreCopiesByNode graph.copies.items (length graph.table.nodes.items) b) (sym same)
    (subst (λ (ns : List Node). AreCopiesByNode graph.copies.items (length ns) by_node) (sym nodes)
    (subst (λ (cs : List FieldCopy). AreCopiesByNode cs (length lists.nodes.items) by_node) (sym copies) are))
