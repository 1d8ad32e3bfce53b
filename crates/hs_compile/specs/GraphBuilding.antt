-- A graph and what it is built of.
use Rattle.std.specs.Prelude.{◌≡◌, ◌<◌, ◌≤◌, ◌^◌, ℕ, suc, false, List, length, map, Option, Some, slice_get}
use Rattle.hs_compile.specs.declared.building.GraphParts.{GraphParts}
use Rattle.hs_compile.specs.declared.graph_terminals.ChainEnds.{ChainEnds}
use Rattle.hs_compile.specs.declared.node_lists.NodeLists.{NodeLists}
use Rattle.hs_compile.specs.GraphEnds.{AreChainEnds}
use Rattle.hs_compile.specs.GraphLists.{AreChildren, LieByNode}
use Rattle.hs_compile.specs.GraphNodes.{AreNodes}
use Rattle.hs_bits.specs.Marks.{is_marked, mark_room}
use Rattle.hs_layout.specs.Layouts.{Laid}
use Rattle.hs_nodes.specs.declared.graph.Graph.{Graph}
use Rattle.hs_nodes.specs.declared.openings.Openings.{Openings}
use Rattle.hs_nodes.specs.declared.table.Node.{Node}
use Rattle.hs_reports.specs.declared.identifier.Identifier as reports
use Rattle.hs_rose.specs.declared.engine.PieceEngine.{PieceEngine}
use Rattle.hs_rose.specs.declared.identifiers.Identifier as rose
use Rattle.hs_rose.specs.Programs.{Tables}

-- All nodes are built, as many as there are paths, with these parents.
pub record AreAllNodes (t : Tables) (l : Laid) (parents : List (Option ℕ)) (paths : List (List ℕ)) (lists : NodeLists) :
    Type 0 where
  pub owned : List ℕ
  pub count : length lists.nodes.items ≡ length paths
  pub parent : (k : ℕ) (node : Node) → slice_get lists.nodes.items k ≡ Some node →
      slice_get parents k ≡ Some node.parent
  pub are : AreNodes t l paths owned lists.nodes.items lists.copies.items

-- The terminals of all chains, where there are so many nodes.
pub record AreAllEnds (t : Tables) (paths : List (List ℕ)) (count : ℕ) (ends : ChainEnds) : Type 0 where
  pub start_count : length ends.starts.items ≡ suc (suc count)
  pub by_node : LieByNode ends.starts.items ends.terminals.items
  pub are : AreChainEnds t paths count ends.terminals.items

-- All nodes, children and terminals.
pub record AreParts (t : Tables) (l : Laid) (parts : GraphParts) : Type 0 where
  pub parents : List (Option ℕ)
  pub paths : List (List ℕ)
  pub few : length parts.nodes.nodes.items < 2 ^ 32
  pub nodes : AreAllNodes t l parents paths parts.nodes
  pub children : AreChildren parts.nodes.nodes.items parts.child_starts.items parts.children.items
  pub ends : AreAllEnds t paths (length parts.nodes.nodes.items) parts.ends

-- the identifier as reports have it
abbrev pub same_identifier : rose.Identifier → reports.Identifier
same_identifier x = record { id = x.id; single = x.single }

-- The graph has those nodes, children and terminals, the engines of the program, and its identifiers.
pub record IsGraphOf (t : Tables) (parts : GraphParts) (graph : Graph PieceEngine) : Type 0 where
  pub nodes : graph.table.nodes.items ≡ parts.nodes.nodes.items
  pub child_starts : graph.table.child_starts.items ≡ parts.child_starts.items
  pub children : graph.table.children.items ≡ parts.children.items
  pub engines : graph.table.engines.items ≡ t.engines
  pub terminals : graph.terminals.items ≡ parts.ends.terminals.items
  pub terminal_starts : graph.terminal_starts.items ≡ parts.ends.starts.items
  pub identifiers : graph.identifiers.items ≡ map same_identifier t.identifiers
  pub copies : graph.copies.items ≡ parts.nodes.copies.items

-- There are no openings, of so many nodes, and all literals count as those that other nodes name.
pub record HasNoOpenings (nodes literals : ℕ) (openings : Openings) : Type 0 where
  pub room : nodes ≤ mark_room openings.nodes
  pub others : openings.others ≡ literals
  pub unmarked : (k : ℕ) → is_marked openings.nodes k ≡ false
