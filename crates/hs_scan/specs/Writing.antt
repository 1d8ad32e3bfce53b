-- The beginning of a write, and what its last byte leaves to the end.
use Rattle.std.specs.Prelude.{◌≡◌, ℕ, ◌<◌, false, List, ◌++◌, length, slice_range}
use Rattle.hs_base.specs.declared.context.Next.TheVariants as after
use Rattle.hs_base.specs.declared.context.Prev.{Prev}
use Rattle.hs_base.specs.Lists.{Each}
use Rattle.hs_base.specs.Literals.{LiteralByte}
use Rattle.hs_base.specs.Regions.{Plan, history_at, region_offset, told_at}
use Rattle.hs_base.specs.Told.{Pair, IsTold}
use Rattle.hs_engine.specs.Engines.{Meaning}
use Rattle.hs_layout.specs.Layouts.{Laid}
use Rattle.hs_nodes.specs.Graphs.{RunsPlan}
use Rattle.hs_nodes.specs.Blocks.{EndsBehind, IsPast}
use Rattle.hs_nodes.specs.Nodes.{AreHitsOf}
use Rattle.hs_nodes.specs.Walks.{AreNodesHeld}
use Rattle.hs_nodes.specs.declared.hits.ChunkHits.{ChunkHits}
use Rattle.hs_nodes.specs.declared.ends.ChunkEnds.{ChunkEnds}
use Rattle.hs_nodes.specs.declared.graph.Graph.{Graph}
use Rattle.hs_reports.specs.EndTables.{EndTable}
use Rattle.hs_reports.specs.Settlement.{AreKnown}
use Rattle.hs_scan.specs.Asking.{AreEndsBehind}
use Rattle.hs_keeping.specs.Keeping.{AreRead}
use Rattle.hs_keeping.specs.Knowing.{IsPending}
use Rattle.hs_scan.specs.Scans.{AreLeftToEnd, IsReached, Stand}
use Rattle.hs_scan.specs.Scratches.{FitsGraph}
use Rattle.hs_scan.specs.Telling.{AreChunkEnds}
use Rattle.hs_scan.specs.declared.scratch.Scratch.{Scratch}

-- The scratch has where the stream of the region stands and what is known of it; all else is as before.
pub record BeginsWrite {E : Type 0} (graph : Graph E) (l : Laid) (region : List ℕ) (old new : Scratch) : Type 0 where
  pub room : FitsGraph graph new
  pub pending : IsPending new.course.known
  pub read : AreRead l region graph.identifiers.items new.course.known.told.items new.course.known.here.items
  pub at_is : new.at ≡ region_offset region
  pub past : new.past ≡ slice_range region history_at told_at
  pub hits : new.hits ≡ old.hits
  pub rows : new.rows ≡ old.rows
  pub finals : new.finals ≡ old.finals

module _ {E : Type 0} (meaning : E → Meaning) (graph : Graph E) where
  -- Whatever plan the graph runs, and behind whatever stream: by where the nodes are left about a line feed, and by
  -- what would end before it, the row has those identifiers that the line feed leaves to the end.
  abbrev pub LeavesLineFeed : (bytes : List ℕ) (at : ℕ) (ends : List ChunkEnds) (all : ChunkEnds) (told here : List ℕ)
      (finals : EndTable) (last : List ℕ) → Type 0
  LeavesLineFeed bytes at ends all told here finals last =
      (literals : List (List LiteralByte)) (plan : Plan) (runs : RunsPlan meaning graph literals plan) (u : List ℕ) →
      at ≡ length u →
      AreChunkEnds meaning graph (λ k. false) runs.pieces u bytes ends all →
      AreKnown plan.patterns u graph.identifiers.items told here →
      AreEndsBehind graph.identifiers.items plan.patterns u after.FinalNewline finals →
      AreLeftToEnd graph plan.patterns (u ++ bytes) last

  -- The same by what is kept of the nodes, where the literals end as the hits tell.
  abbrev pub LeavesLineFeedChunk : (region : List ℕ) (prev : Prev) (at : ℕ) (past bytes : List ℕ)
      (hits : List ChunkHits) (told here : List ℕ) (finals : EndTable) (last : List ℕ) → Type 0
  LeavesLineFeedChunk region prev at past bytes hits told here finals last =
      (literals : List (List LiteralByte)) (plan : Plan) (runs : RunsPlan meaning graph literals plan) (u : List ℕ) →
      EndsBehind u prev at →
      IsPast past u →
      Each (λ b. b < 256) (u ++ bytes) →
      AreHitsOf literals hits u bytes →
      AreNodesHeld meaning graph.table runs.pieces region u →
      AreKnown plan.patterns u graph.identifiers.items told here →
      AreEndsBehind graph.identifiers.items plan.patterns u after.FinalNewline finals →
      AreLeftToEnd graph plan.patterns (u ++ bytes) last

  -- Whatever plan the graph runs, and behind whatever stream behind which the scan was where it began: the row has the
  -- identifiers that the bytes leave to the end.
  abbrev pub LeavesToEnd : (literals : List (List LiteralByte)) (old : Stand) (bytes last : List ℕ) → Type 0
  LeavesToEnd literals old bytes last =
      (plan : Plan) (runs : RunsPlan meaning graph literals plan) (u : List ℕ) (list : List Pair) →
      IsReached meaning graph literals plan runs u old →
      IsTold plan.patterns u list →
      AreLeftToEnd graph plan.patterns (u ++ bytes) last
