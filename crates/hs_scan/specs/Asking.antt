-- Of which identifiers matches end behind all bytes so far, if that comes next.
use Rattle.std.specs.Prelude.{◌≡◌, ◌↔◌, ℕ, ◌<◌, true, List, [], length, Some, slice_get}
use Rattle.hs_base.specs.declared.context.Next.{Next}
use Rattle.hs_base.specs.Lists.{Each}
use Rattle.hs_base.specs.Literals.{LiteralByte}
use Rattle.hs_base.specs.Patterns.{Pattern}
use Rattle.hs_base.specs.Regions.{Plan, history_size, last_bytes}
use Rattle.hs_base.specs.Settling.{HasEndHere}
use Rattle.hs_engine.specs.Engines.{Meaning}
use Rattle.hs_nodes.specs.Graphs.{RunsPlan}
use Rattle.hs_nodes.specs.Nodes.{AreHitsOf}
use Rattle.hs_nodes.specs.Walks.{AreNodesHeld}
use Rattle.hs_nodes.specs.declared.graph.Graph.{Graph}
use Rattle.hs_nodes.specs.declared.hits.ChunkHits.{ChunkHits}
use Rattle.hs_reports.specs.EndTables.{EndTable, words_of}
use Rattle.hs_reports.specs.WordBits.{word_bit}
use Rattle.hs_reports.specs.declared.identifier.Identifier.{Identifier}

-- the table has the identifiers of which a match ends behind u, where that comes next
abbrev pub AreEndsBehind : List Identifier → List Pattern → (u : List ℕ) → Next → EndTable → Type 0
AreEndsBehind identifiers P u next table =
    (p : ℕ) (x : Identifier) →
    slice_get identifiers p ≡ Some x →
    (word_bit (words_of table p).before 0 ≡ true) ↔ HasEndHere P x.id.0 u next

module _ {E : Type 0} (meaning : E → Meaning) (graph : Graph E) where
  -- Whatever plan the graph runs with those literals, and behind whatever stream of which that is what is kept.
  abbrev pub AsksEnds : (literals : List (List LiteralByte)) (at : ℕ) (past region : List ℕ) → Next → EndTable → Type 0
  AsksEnds literals at past region next table =
      (plan : Plan) (runs : RunsPlan meaning graph literals plan) (u : List ℕ) →
      at ≡ length u →
      past ≡ last_bytes history_size u →
      Each (λ b. b < 256) u →
      AreNodesHeld meaning graph.table runs.pieces region u →
      AreEndsBehind graph.identifiers.items plan.patterns u next table

  -- The same where the literals end as the hits tell.
  abbrev pub AsksTable : (at : ℕ) (past region : List ℕ) (hits : List ChunkHits) → Next → EndTable → Type 0
  AsksTable at past region hits next table =
      (literals : List (List LiteralByte)) (plan : Plan) (runs : RunsPlan meaning graph literals plan) (u : List ℕ) →
      at ≡ length u →
      past ≡ last_bytes history_size u →
      Each (λ b. b < 256) u →
      AreHitsOf literals hits u [] →
      AreNodesHeld meaning graph.table runs.pieces region u →
      AreEndsBehind graph.identifiers.items plan.patterns u next table
