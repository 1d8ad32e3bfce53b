-- Which database is that of a plan.
use Rattle.std.specs.Prelude.{◌≡◌, ℕ, ◌≤◌, IfSome, List, Option}
use Rattle.hs_base.specs.Regions.{Plan, plan_size}
use Rattle.hs_kept.specs.declared.packing.Packing.{Packing}
use Rattle.hs_kept.specs.Packing.{IsPackingFor}
use Rattle.hs_layout.specs.Layouts.{Laid, laid_size}
use Rattle.hs_literals.specs.declared.literals.Literals.{Literals}
use Rattle.hs_literals.specs.Held.{held}
use Rattle.hs_nodes.specs.declared.graph.Graph.{Graph}
use Rattle.hs_nodes.specs.declared.lone.LoneNodes.{LoneNodes}
use Rattle.hs_nodes.specs.declared.table.Node.{Node}
use Rattle.hs_nodes.specs.Lone.{AreLoneNodes}
use Rattle.hs_nodes.specs.Openings.{lasting_literals}
use Rattle.hs_nodes.specs.Graphs.{IsGraphSound, RunsPlan, plan_layout}
use Rattle.hs_rose.specs.declared.engine.PieceEngine.{PieceEngine}
use Rattle.hs_rose.specs.PieceEngines.{piece_meaning}
use Rattle.hs_compile.specs.Sizes.{greatest_size}

-- What a database has: the graph of nodes and the literals that a scan runs, those that last and the lone nodes, where
-- the parts of a region lie, how a stream keeps its region, and the digest of the list.
pub record Compiled : Type 0 where
  pub graph : Graph PieceEngine
  pub literals : Literals
  pub lasting : Option Literals
  pub lone : LoneNodes
  pub layout : Laid
  pub packing : Packing
  pub digest : List ℕ

abbrev pub compiled : Graph PieceEngine → Literals → Option Literals → LoneNodes → Laid → Packing → List ℕ → Compiled
compiled graph literals lasting lone layout packing digest = record {
  graph = graph;
  literals = literals;
  lasting = lasting;
  lone = lone;
  layout = layout;
  packing = packing;
  digest = digest;
}

-- the graph of nodes that a scan runs
abbrev pub graph_of : Compiled → Graph PieceEngine
graph_of database = database.graph

-- the literals that its nodes name
abbrev pub literals_in : Compiled → Literals
literals_in database = database.literals

-- those of them that are looked for where the chains are over that begin where the stream does, if there are others
abbrev pub lasting_in : Compiled → Option Literals
lasting_in database = database.lasting

-- nodes of which it plays no part where they are left once a pair of their one identifier is told
abbrev pub lone_in : Compiled → LoneNodes
lone_in database = database.lone

-- where the parts of a region lie
abbrev pub layout_of : Compiled → Laid
layout_of database = database.layout

-- how a stream keeps its region
abbrev pub packing_of : Compiled → Packing
packing_of database = database.packing

-- the digest of its list
abbrev pub digest_of : Compiled → List ℕ
digest_of database = database.digest

-- The database is that of the plan: its graph can be run with its literals over regions of its layout, it runs the
-- plan, the layout is that of the plan's regions, which are small enough, and so is the packing. The literals that last
-- are those that nodes name which aren't openings, and the lone nodes are such.
pub record IsDatabaseOf (database : Compiled) (plan : Plan) : Type 0 where
  pub sound : IsGraphSound piece_meaning (graph_of database) (held (literals_in database)) (layout_of database)
  pub runs : RunsPlan piece_meaning (graph_of database) (held (literals_in database)) plan
  pub layout : layout_of database ≡ plan_layout plan
  pub size : laid_size (layout_of database) ≡ plan_size plan
  pub small : laid_size (layout_of database) ≤ greatest_size
  pub packing : IsPackingFor (packing_of database) plan
  pub lasting : IfSome (lasting_in database) (λ own.
      held own ≡ lasting_literals (graph_of database).openings (held (literals_in database)))
  pub lone : AreLoneNodes piece_meaning (graph_of database) (lone_in database)

-- So each database is, of some plan.
pub record IsWholeDatabase (database : Compiled) : Type 0 where
  pub plan : Plan
  pub is_of : IsDatabaseOf database plan

-- the nodes of its graph
abbrev pub nodes_of : Compiled → List Node
nodes_of database = (graph_of database).table.nodes.items
