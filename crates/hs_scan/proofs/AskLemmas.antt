-- From where nodes are left behind all bytes so far to the identifiers of which a match ends there.
use Rattle.std.proofs.Common.{◌≡◌, ℕ, ◌+◌, ◌*◌, ◌<◌, true, List, [], length, sym, ap, subst, ◌∙◌, inl, inr, arith}
use Rattle.std.specs.Prelude.{slice_index}
use Rattle.std.proofs.lemmas.Bool.{cases_lt}
use Rattle.hs_base.specs.declared.context.Next.{Next}
use Rattle.hs_base.specs.declared.context.Prev.{Prev}
use Rattle.hs_base.specs.Chains.{Piece}
use Rattle.hs_base.specs.Leaving.{LeavesAt}
use Rattle.hs_base.specs.Literals.{LiteralByte}
use Rattle.hs_base.specs.Settling.{HasEndHere}
use Rattle.hs_base.proofs.ChainStreamLemmas.{leaving-begins}
use Rattle.hs_engine.specs.Engines.{Meaning}
use Rattle.hs_nodes.specs.Graphs.{AreTerminalsSound}
use Rattle.hs_nodes.specs.Left.{nowhere}
use Rattle.hs_nodes.specs.Walks.{node_ends}
use Rattle.hs_nodes.specs.declared.ends.ChunkEnds.{ChunkEnds}
use Rattle.hs_nodes.specs.declared.graph.Graph.{Graph}
use Rattle.hs_nodes.specs.declared.hits.ChunkHits.{ChunkHits}
use Rattle.hs_reports.specs.EndTables.{EndTable, words_of}
use Rattle.hs_reports.specs.WordBits.{word_bit}
use Rattle.hs_reports.proofs.GatheringLemmas.{gathering-ends}
use Rattle.hs_scan.specs.Asking.{AsksEnds, AsksTable}
use Rattle.hs_scan.specs.Ending.{AreLeftAt, is_ended}
use Rattle.hs_nodes.specs.Leaving.{LeavesNodes, TellsLeft, is_left}
use Rattle.hs_scan.specs.Scans.{AreHitsBehind}
use Rattle.hs_nodes.specs.Gathering.{AreGathered, ends_or_all, left_before}
use Rattle.hs_scan.proofs.BlockLemmas.{each-map, value-tells}
use Rattle.hs_nodes.proofs.GatherLemmas.{ends-at, ends-past}
use Rattle.hs_scan.proofs.EndingLemmas.{ended-tells}
use Rattle.hs_scan.proofs.ScanLemmas.{Stands}

module _ {E : Type 0} (meaning : E → Meaning) (graph : Graph E) (sound : AreTerminalsSound graph) (ends : List ChunkEnds) (all : ChunkEnds) (next : Next) (count : length ends ≡ length graph.table.nodes.items) (everywhere : is_left all ≡ true) where
  -- where the nodes are left, and those of no pieces
  left-at : (literals : List (List LiteralByte)) (pieces : ℕ → List Piece) (u : List ℕ) → pieces (length graph.table.nodes.items) ≡ [] → ((k : ℕ) → k < length graph.table.nodes.items → TellsLeft (is_left (node_ends ends k)) (pieces k) u next) →
      AreLeftAt graph pieces u next (left_before ends all 0)
  left-at literals pieces u none leaves k below = elim (cases_lt k (length graph.table.nodes.items)) [
    | inl inner ↦
        value-tells (word_bit (left_before ends all 0 k) 0) (is_left (node_ends ends k)) (LeavesAt (pieces k) u next)
        (ap is_left (ends-at ends all nowhere k (omega (arith, inner, count)))) (leaves k inner)
    | inr past ↦
        let last : k ≡ length graph.table.nodes.items = omega (arith, below, past) in
        let is : is_left (ends_or_all ends all k) ≡ true = ap is_left (ends-past ends all k (omega (arith, last, count))) ∙ everywhere in
        let empty : pieces k ≡ [] = ap pieces last ∙ none in
        subst (λ ps. TellsLeft (is_left (ends_or_all ends all k)) ps u next) (sym empty) (λ set. (leaving-begins u next).0 (let e : true ≡ true = sym is ∙ is in e), λ leaves_here. is)
  ]

  pub asks-table : (prev : Prev) (at : ℕ) (past region : List ℕ) (hits : List ChunkHits) (table : EndTable) → Stands at past prev → LeavesNodes meaning graph.table region prev at past next hits ends (length graph.table.nodes.items) →
      AreGathered meaning graph ends all at 0 (length graph.table.nodes.items + 1) table → AsksTable meaning graph at past region hits next table
  asks-table prev at past region hits table stand leaves gathered literals plan runs u offset past_is small are held p x there =
      let nodes : ℕ = length graph.table.nodes.items in
      let lefts = left_before ends all 0 in
      let left : AreLeftAt graph runs.pieces u next lefts = left-at literals runs.pieces u runs.no_pieces (leaves literals runs.pieces u runs.nodes (stand u offset past_is) past_is small are held) in
      let none : at + 64 * 0 + 0 ≡ at = omega arith in
      let of = gathering-ends graph.terminals.items lefts (λ k. slice_index (ends_or_all ends all k).behind 0) (at + 64 * 0) (nodes + 1) table
      (each-map (λ t. (t.identifier < length graph.identifiers.items) × (t.node < nodes + 1)) (λ t. t.node < nodes + 1) graph.terminals.items (λ t known. known.1) sound.known) gathered p in
      let same : word_bit (words_of table p).before 0 ≡ is_ended graph lefts at p = of.before_is 0 (omega arith) ∙ ap (λ n. is_ended graph lefts n p) none in
      value-tells (word_bit (words_of table p).before 0) (is_ended graph lefts at p) (HasEndHere plan.patterns x.id.0 u next) same
      (ended-tells meaning graph sound literals plan runs u next lefts at p x offset left there)

-- the same where the hits are those behind the stream
pub asks-ends : {E : Type 0} (meaning : E → Meaning) (graph : Graph E) (literals : List (List LiteralByte)) (at : ℕ) (past region : List ℕ) (hits : List ChunkHits) (next : Next) (table : EndTable) → AreHitsBehind literals at past hits [] → AsksTable meaning graph at past region hits next table →
    AsksEnds meaning graph literals at past region next table
asks-ends meaning graph literals at past region hits next table are asks plan runs u offset past_is small held = asks literals plan runs u offset past_is small (are u offset past_is) held
