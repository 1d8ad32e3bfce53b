-- What only the end of a stream would report, by the nodes that are left.
use Rattle.std.proofs.Common.{◌≡◌, ◌↔◌, ℕ, ◌+◌, ◌<◌, true, false, List, [], ◌∷◌, ◌++◌, length, Some, slice_get, refl, sym, ap, subst, ◌∙◌, arith, append_assoc}
use Rattle.std.proofs.lemmas.List.{append-nil}
use Rattle.hs_base.specs.declared.context.Next.{Next}
use Rattle.hs_base.specs.declared.context.Next.TheVariants as after
use Rattle.hs_base.specs.Assertions.{line_feed}
use Rattle.hs_base.specs.Bits.{has_word_bit}
use Rattle.hs_base.specs.Leaving.{LeavesAt}
use Rattle.hs_base.specs.Literals.{LiteralByte}
use Rattle.hs_base.specs.Patterns.{is_single}
use Rattle.hs_base.specs.Regions.{Plan}
use Rattle.hs_base.specs.Settling.{Ends, HasEndHere, IsLeftToEnd, settled}
use Rattle.hs_engine.specs.Engines.{Meaning}
use Rattle.hs_reports.specs.EndTables.{EndTable, words_of}
use Rattle.hs_reports.specs.Heard.{AreSureEnds}
use Rattle.hs_reports.specs.Chunks.{AreChunkEnds as AreEndsAbout}
use Rattle.hs_reports.specs.Settlement.{AreKnown, known_at}
use Rattle.hs_reports.specs.Terminals.{ends_by_words}
use Rattle.hs_reports.specs.WordBits.{word_bit}
use Rattle.hs_reports.specs.declared.identifier.Identifier.{Identifier}
use Rattle.hs_reports.proofs.HeardLemmas.{byte-leaves}
use Rattle.hs_reports.proofs.TerminalLemmas.{end-told, told-end}
use Rattle.hs_scan.specs.Ending.{AreLeftAt, is_ended}
use Rattle.hs_nodes.specs.Graphs.{AreTerminalsSound, RunsPlan}
use Rattle.hs_scan.specs.Scans.{AreLeftToEnd}
use Rattle.hs_scan.specs.Asking.{AreEndsBehind}
use Rattle.hs_keeping.specs.Leaving.{AreLeftByLineFeed}
use Rattle.hs_nodes.specs.declared.graph.Graph.{Graph}
use Rattle.hs_scan.proofs.BlockLemmas.{each-map, value-tells}
use Rattle.hs_keeping.proofs.KeepingLemmas.{number-at}
use Rattle.hs_scan.proofs.RegionLemmas.{none-left}

module _ {E : Type 0} (meaning : E → Meaning) (graph : Graph E) (sound : AreTerminalsSound graph) (literals : List (List LiteralByte)) (plan : Plan) (runs : RunsPlan meaning graph literals plan) where
  named : (p : ℕ) (x : Identifier) → slice_get graph.identifiers.items p ≡ Some x → slice_get plan.identifiers p ≡ Some x.id.0
  named p x at = subst (λ ys. slice_get ys p ≡ Some x.id.0) runs.ids (number-at graph.identifiers.items p x at)

  -- Where the nodes are left tells where matches of an identifier end, whatever comes next.
  pub ended-tells : (u : List ℕ) (next : Next) (lefts : ℕ → ℕ) (at p : ℕ) (x : Identifier) → at ≡ length u → AreLeftAt graph runs.pieces u next lefts → slice_get graph.identifiers.items p ≡ Some x →
      (is_ended graph lefts at p ≡ true) ↔ HasEndHere plan.patterns x.id.0 u next
  ended-tells u next lefts at p x offset are there =
      let left =
      each-map (λ t. (t.identifier < length graph.identifiers.items) × (t.node < length graph.table.nodes.items + 1)) (λ t. true ≡ true → (word_bit (lefts t.node) 0 ≡ true) ↔ LeavesAt (runs.pieces t.node) u next) graph.terminals.items
      (λ t known all. are t.node known.1) sound.known in (
        told-end runs.pieces plan.identifiers plan.patterns graph.terminals.items runs.is_plan.identifiers runs.terminals runs.spans lefts u next at 0 offset (λ q. true) left p x.id.0 refl (named p x there),
        end-told runs.pieces plan.identifiers plan.patterns graph.terminals.items runs.is_plan.identifiers runs.terminals runs.spans lefts u next at 0 offset (λ q. true) left p x.id.0 refl (named p x there),
      )

  -- A line feed leaves to the end what the row tells.
  pub line_feed-left : (u told here last : List ℕ) (table finals : EndTable) → AreKnown plan.patterns u graph.identifiers.items told here → ((p : ℕ) (x : Identifier) → slice_get graph.identifiers.items p ≡ Some x → AreEndsAbout plan.patterns u (line_feed ∷ []) x.id.0 (ends_by_words (words_of table p).before (words_of table p).behind)) →
      AreEndsBehind graph.identifiers.items plan.patterns u after.FinalNewline finals → AreLeftByLineFeed graph.identifiers.items told here table finals last → AreLeftToEnd graph plan.patterns (u ++ line_feed ∷ []) last
  line_feed-left u told here last table finals known about ended row p x there =
      let id : ℕ = x.id.0 in
      let ends : Ends = record { before = word_bit (words_of table p).before 0; before_last = word_bit (words_of finals p).before 0; behind = word_bit (words_of table p).behind 0 } in
      let own = about p x there 0 (omega arith) in
      let sure : AreSureEnds plan.patterns u line_feed id ends = subst (λ v. AreSureEnds plan.patterns v line_feed id ends) (append-nil u) (record { before = own.before; behind = own.behind }) in
      let final = ended p x there in
      let leaves = byte-leaves plan.patterns u line_feed id (known_at told here p) ends (known.heard p x there) sure (λ set. (refl, final.0 set), λ (same, found). final.1 found) in
      let same : has_word_bit last p ≡ (settled (is_single plan.patterns id) (known_at told here p) ends).last = row p x there ∙ ap (λ s. (settled s (known_at told here p) ends).last) (sym (known.single p x there)) in
      value-tells (has_word_bit last p) (settled (is_single plan.patterns id) (known_at told here p) ends).last (IsLeftToEnd plan.patterns (u ++ line_feed ∷ []) id) same leaves

  -- Any other byte leaves nothing.
  pub other-left : (u bytes last : List ℕ) (b : ℕ) → (b ≡ line_feed → ⊥) → ((p : ℕ) → has_word_bit last p ≡ false) → AreLeftToEnd graph plan.patterns (u ++ (bytes ++ b ∷ [])) last
  other-left u bytes last b other none p x there = (
    λ set. absurd (both last p (none p) set),
    λ left. absurd (none-left plan.patterns (u ++ bytes) b x.id.0 other (subst (λ v. IsLeftToEnd plan.patterns v x.id.0) (sym (append_assoc u bytes (b ∷ []))) left)),
  )
    where
      both : (last : List ℕ) (p : ℕ) → has_word_bit last p ≡ false → has_word_bit last p ≡ true → ⊥
      both last p unset is = cc
