-- Memory that a scan uses within a write.
use Rattle.std.specs.Prelude.{◌≡◌, ℕ, ◌<◌, ◌≤◌, ◌^◌, true, false, List, length}
use Rattle.hs_base.specs.declared.context.Next.{Next}
use Rattle.hs_base.specs.Bits.{word_count}
use Rattle.hs_base.specs.Literals.{LiteralByte}
use Rattle.hs_base.specs.Regions.{history_size}
use Rattle.hs_literals.specs.HitTables.{has_hit}
use Rattle.hs_nodes.specs.Left.{nowhere}
use Rattle.hs_bits.specs.Marks.{is_marked, mark_room}
use Rattle.hs_nodes.specs.Graphs.{AreTerminalsSound}
use Rattle.hs_nodes.specs.Openings.{AreOpenings}
use Rattle.hs_nodes.specs.Resting.{AreEnginesIdle, AreNodesResting}
use Rattle.hs_nodes.specs.Waking.{AreRowsSound, AreWakesSound}
use Rattle.hs_nodes.specs.Walks.{AreNodesWell, IsTableSound, node_ends}
use Rattle.hs_nodes.specs.declared.ends.ChunkEnds.{ChunkEnds}
use Rattle.hs_reports.specs.EndTables.{HasNoEnds}
use Rattle.hs_engine.specs.Engines.{Meaning}
use Rattle.hs_scan.specs.Asking.{AsksTable}
use Rattle.hs_scan.specs.Hits.{HasNowhere}
use Rattle.hs_scan.specs.NodeCaches.{IsNodeCacheOf}
use Rattle.hs_keeping.specs.Knowing.{FitsKnown, IsPending}
use Rattle.hs_scan.specs.Scans.{AreHitsBehind, Stand, stand}
use Rattle.hs_nodes.specs.declared.graph.Graph.{Graph}
use Rattle.hs_scan.specs.declared.course.Course.{Course}
use Rattle.hs_scan.specs.declared.node_cache.NodeCache.{NodeCache}
use Rattle.hs_scan.specs.declared.scratch.Scratch.{Scratch}

-- There is room for so many nodes, none of which is left anywhere yet.
pub record FitsRoom (nodes : ℕ) (ends : List ChunkEnds) (marks : List ℕ) : Type 0 where
  pub count : length ends ≡ nodes
  pub clear : (k : ℕ) → node_ends ends k ≡ nowhere
  pub room : nodes ≤ mark_room marks
  pub below : (k : ℕ) → is_marked marks k ≡ true → k < nodes

-- There is room for so many nodes and identifiers, none of which has an end.
pub record IsFresh (nodes identifiers : ℕ) (course : Course) : Type 0 where
  pub room : nodes ≤ mark_room course.marks
  pub below : (k : ℕ) → is_marked course.marks k ≡ true → k < nodes
  pub known : FitsKnown identifiers course.known
  pub no_ends : HasNoEnds course.known.ends

-- There is room for so many nodes and identifiers, and for the hits that are looked for.
pub record HasRoom (nodes identifiers : ℕ) (s : Scratch) : Type 0 where
  pub room : FitsRoom nodes s.ends.items s.course.marks
  pub hits : length s.hits.items ≡ s.rows.count
  pub known : FitsKnown identifiers s.course.known
  pub finals : length s.finals.words ≡ identifiers
  pub last : length s.last.items ≡ word_count identifiers
  pub past : length s.past ≡ history_size

-- and so for those of a graph
abbrev pub FitsGraph : {E : Type 0} → Graph E → Scratch → Type 0
FitsGraph graph s = HasRoom (length graph.table.nodes.items) (length graph.identifiers.items) s

-- no literal ends anywhere
abbrev pub HasNoHits : Scratch → Type 0
HasNoHits s = (k : ℕ) → HasNowhere s.hits.items k

-- No write is begun: no literal ends anywhere, and no identifier has an end.
pub record IsIdle (s : Scratch) : Type 0 where
  pub room : HasRoom (length s.ends.items) (length s.course.known.ends.words) s
  pub none : HasNoHits s
  pub no_ends : HasNoEnds s.course.known.ends
  pub no_finals : HasNoEnds s.finals

-- The scratch has as many nodes and identifiers as the graph, and so many literals.
pub record ServesGraph {E : Type 0} (graph : Graph E) (literals : ℕ) (s : Scratch) : Type 0 where
  pub nodes : length s.ends.items ≡ length graph.table.nodes.items
  pub identifiers : length s.course.known.ends.words ≡ length graph.identifiers.items
  pub hits : length s.hits.items ≡ literals

-- The hits are those of the next bytes, of each literal that ends somewhere, and all else is as before.
pub record FindsHits (literals : List (List LiteralByte)) (bytes : List ℕ) (old new : Scratch) : Type 0 where
  pub hits : AreHitsBehind literals old.at old.past new.hits.items bytes
  pub others : (k : ℕ) → has_hit new.rows k ≡ false → HasNowhere new.hits.items k
  pub count : length new.hits.items ≡ length old.hits.items
  pub rows : new.rows.count ≡ old.rows.count
  pub ends : new.ends ≡ old.ends
  pub starts : new.starts ≡ old.starts
  pub course : new.course ≡ old.course
  pub finals : new.finals ≡ old.finals
  pub last : new.last ≡ old.last
  pub past : new.past ≡ old.past
  pub at_is : new.at ≡ old.at

-- No literal ends anywhere any more, and all else is as before.
pub record ForgetsHits (old new : Scratch) : Type 0 where
  pub none : HasNoHits new
  pub count : length new.hits.items ≡ length old.hits.items
  pub rows : new.rows ≡ old.rows
  pub ends : new.ends ≡ old.ends
  pub starts : new.starts ≡ old.starts
  pub course : new.course ≡ old.course
  pub finals : new.finals ≡ old.finals
  pub last : new.last ≡ old.last
  pub past : new.past ≡ old.past
  pub at_is : new.at ≡ old.at

-- There is room for so many nodes, each of which may be left anywhere.
pub record HasRoomForNodes (nodes : ℕ) (s : Scratch) : Type 0 where
  pub count : length s.ends.items ≡ nodes
  pub room : nodes ≤ mark_room s.course.marks
  pub below : (k : ℕ) → is_marked s.course.marks k ≡ true → k < nodes

-- Only where nodes are left, where they may be entered, and which are marked are other ones.
pub record KeepsKnown (old new : Scratch) : Type 0 where
  pub hits : new.hits ≡ old.hits
  pub rows : new.rows ≡ old.rows
  pub known : new.course.known ≡ old.course.known
  pub finals : new.finals ≡ old.finals
  pub last : new.last ≡ old.last
  pub past : new.past ≡ old.past
  pub at_is : new.at ≡ old.at

-- Only what nodes leave and what goes from chunk to chunk are other ones.
pub record KeepsTables (old new : Scratch) : Type 0 where
  pub hits : new.hits ≡ old.hits
  pub rows : new.rows ≡ old.rows
  pub finals : new.finals ≡ old.finals
  pub last : new.last ≡ old.last
  pub past : new.past ≡ old.past
  pub at_is : new.at ≡ old.at

-- The same, but for what is left to the end.
pub record KeepsLast (old new : Scratch) : Type 0 where
  pub hits : new.hits ≡ old.hits
  pub rows : new.rows ≡ old.rows
  pub finals : new.finals ≡ old.finals
  pub past : new.past ≡ old.past
  pub at_is : new.at ≡ old.at

-- Only what is known of the identifiers, and what is left to the end, are other ones.
pub record KeepsNodes (old new : Scratch) : Type 0 where
  pub ends : new.ends ≡ old.ends
  pub marks : new.course.marks ≡ old.course.marks
  pub hits : new.hits ≡ old.hits
  pub rows : new.rows ≡ old.rows
  pub finals : new.finals ≡ old.finals
  pub past : new.past ≡ old.past
  pub at_is : new.at ≡ old.at

-- Only what was asked of the nodes is another one.
pub record KeepsAsked (old new : Scratch) : Type 0 where
  pub rows : new.rows.count ≡ old.rows.count
  pub starts : new.starts ≡ old.starts
  pub course : new.course ≡ old.course
  pub last : new.last ≡ old.last
  pub past : new.past ≡ old.past
  pub at_is : new.at ≡ old.at

-- The hits that are looked for, and what is asked of a last line feed, are the same.
pub record KeepsAll (old new : Scratch) : Type 0 where
  pub rows : new.rows.count ≡ old.rows.count
  pub finals : new.finals ≡ old.finals
  pub last : new.last ≡ old.last

-- Where nodes are left behind all bytes so far, and that comes next, the table has the ends of their terminals; all but
-- that table is as before.
pub record AsksNodes {E : Type 0} (meaning : E → Meaning) (graph : Graph E) (region : List ℕ) (next : Next)
    (old new : Scratch) : Type 0 where
  pub room : FitsGraph graph new
  pub hits : new.hits ≡ old.hits
  pub rows : new.rows ≡ old.rows
  pub starts : new.starts ≡ old.starts
  pub course : new.course ≡ old.course
  pub last : new.last ≡ old.last
  pub past : new.past ≡ old.past
  pub at_is : new.at ≡ old.at
  pub asks : AsksTable meaning graph old.at old.past region old.hits.items next new.finals

-- where a scan is that has this scratch and that region
abbrev pub stand_of : Scratch → (region : List ℕ) → Stand
stand_of s region = stand s.at s.past region s.course.known.told.items s.course.known.here.items

-- The nodes of a graph may be run, where its list has so many literals and its region so many bytes.
pub record MayRunNodes {E : Type 0} (meaning : E → Meaning) (graph : Graph E) (literals size : ℕ) : Type 0 where
  pub table : IsTableSound meaning graph.table literals size
  pub terminals : AreTerminalsSound graph
  pub few : length graph.table.nodes.items < 2 ^ 32
  pub wakes : AreWakesSound graph.table.nodes.items graph.wakes literals
  pub rows : AreRowsSound meaning graph.table graph.wakes
  pub idle : AreEnginesIdle meaning graph.table.engines.items
  pub openings : AreOpenings graph.table.nodes.items literals graph.openings

-- A scan is between two chunks, at that offset: what the region keeps of the nodes is well formed, nothing is live in
-- those that aren't marked, and the cache is one of these nodes.
pub record IsBetweenChunks {E : Type 0} (meaning : E → Meaning) (graph : Graph E) (at : ℕ) (region : List ℕ)
    (cache : NodeCache) (s : Scratch) : Type 0 where
  pub well : AreNodesWell meaning graph.table region at
  pub room : FitsGraph graph s
  pub pending : IsPending s.course.known
  pub resting : AreNodesResting meaning graph.table s.course.marks region
  pub cached : IsNodeCacheOf meaning graph.table cache
