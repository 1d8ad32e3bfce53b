-- From a region to what is known at the beginning of a write, and to the region at its end.
use Rattle.std.proofs.Common.{◌≡◌, ◌↔◌, ℕ, ◌+◌, ◌*◌, ◌<◌, ◌≤◌, Bool, true, false, List, [], ◌∷◌, ◌++◌, length, Some, slice_get, refl, sym, ap, subst, ◌∙◌, inl, inr, arith, length-append}
use Rattle.std.specs.Prelude.{slice_range}
use Rattle.std.proofs.lemmas.Option.{same_Some, slice_get_within}
use Rattle.hs_base.specs.Assertions.{line_feed}
use Rattle.hs_base.specs.Bits.{has_bit, has_word_bit}
use Rattle.hs_base.specs.Lists.{Each}
use Rattle.hs_base.specs.Literals.{LiteralByte}
use Rattle.hs_base.specs.Offsets.{greatest_offset}
use Rattle.hs_base.specs.Patterns.{Pattern, IsPair, is_single}
use Rattle.hs_base.specs.Regions.{Plan, IsRegion, AreBitsOf, fields_at, here_at, last_at, plan_size, region_offset, told_at}
use Rattle.hs_base.specs.Reports.{IsReport, each, first, first_at_end}
use Rattle.hs_base.specs.Settling.{IsLeftToEnd}
use Rattle.hs_base.proofs.EndLemmas.{pair-before_end}
use Rattle.hs_base.proofs.ReportLemmas.{report-pair_now}
use Rattle.hs_engine.specs.Engines.{Meaning}
use Rattle.hs_nodes.specs.Nodes.{HoldsPiece}
use Rattle.hs_nodes.specs.Walks.{AreNodesHeld, parent_pieces}
use Rattle.hs_reports.specs.Settlement.{AreKnown}
use Rattle.hs_reports.specs.declared.identifier.Identifier.{Identifier}
use Rattle.hs_keeping.specs.Keeping.{AreRead, AreSparesUnset, singles_before}
use Rattle.hs_nodes.specs.Graphs.{RunsPlan, plan_layout}
use Rattle.hs_reports.specs.Identifiers.{singles_of}
use Rattle.hs_scan.specs.Scans.{AreLeftToEnd, IsReached, IsWritten, Stand}
use Rattle.hs_nodes.specs.declared.graph.Graph.{Graph}
use Rattle.hs_scan.proofs.BlockLemmas.{value-tells}
use Rattle.hs_nodes.proofs.FieldLemmas.{nodes-begin, nodes-end}
use Rattle.hs_nodes.proofs.PlanLemmas.{ids-count, plan-size, singles-count}
use Rattle.hs_nodes.proofs.NodeLemmas.{there}
use Rattle.hs_keeping.proofs.KeepingLemmas.{IsSingleAt, number-at, single-at, single-of}

-- no bit that stands for nothing is set in a region
pub spares-unset : (plan : Plan) (u region : List ℕ) → IsRegion plan u region → AreSparesUnset (plan_layout plan) region
spares-unset plan u region is k (inl (low, high)) = is.told.spare k low high
spares-unset plan u region is k (inr (inl (low, high))) = is.here.spare k low high
spares-unset plan u region is k (inr (inr (low, high))) = is.last.spare k low high

module _ {E : Type 0} (meaning : E → Meaning) (graph : Graph E) (literals : List (List LiteralByte)) (plan : Plan) (runs : RunsPlan meaning graph literals plan) where
  id-named : (p : ℕ) (x : Identifier) → slice_get graph.identifiers.items p ≡ Some x → slice_get plan.identifiers p ≡ Some x.id.0
  id-named p x at = subst (λ ys. slice_get ys p ≡ Some x.id.0) runs.ids (number-at graph.identifiers.items p x at)

  single-named : (n : ℕ) (x : Identifier) → slice_get (singles_of graph.identifiers.items) n ≡ Some x → slice_get plan.singles n ≡ Some x.id.0
  single-named n x at = subst (λ ys. slice_get ys n ≡ Some x.id.0) runs.singles (number-at (singles_of graph.identifiers.items) n x at)

  -- What is read of the region of a stream is what is known of its identifiers.
  pub known-read : (u region told here : List ℕ) → IsRegion plan u region → AreRead (plan_layout plan) region graph.identifiers.items told here → AreKnown plan.patterns u graph.identifiers.items told here
  known-read u region told here is are = record {
    single = λ p x at. runs.single p x at;
    heard = λ p x at.
        let read = are p x at in
        let id : ℕ = x.id.0 in
        record {
          told = λ single.
              let is_single_x : x.single ≡ true = sym (runs.single p x at) ∙ single in
              let n : ℕ = singles_before graph.identifiers.items p in
              let named : slice_get plan.singles n ≡ Some id = single-named n x (single-at graph.identifiers.items p x at is_single_x) in
              value-tells (has_word_bit told p) (has_bit region (8 * told_at + n)) ((to : ℕ) × IsReport plan.patterns u false id to) (read.told_is is_single_x) (is.told.each n id named);
          here =
              value-tells (has_word_bit here p) (has_bit region (8 * here_at (length plan.singles) + p)) (IsReport plan.patterns u false id (length u)) read.here_is
              (is.here.each p id (id-named p x at));
        };
  }

  -- Where a scan begins in the region of a stream.
  pub reached-begin : (u : List ℕ) (s : Stand) → Each (λ b. b < 256) u → IsRegion plan u s.region → s.at ≡ region_offset s.region → s.past ≡ slice_range s.region 8 72 →
      AreRead (plan_layout plan) s.region graph.identifiers.items s.told s.here → IsReached meaning graph literals plan runs u s
  reached-begin u s small is at past read = record {
    offset = at ∙ is.offset;
    past = past ∙ is.history;
    bytes = small;
    held = nodes-begin meaning graph literals plan runs u s.region is;
    known = known-read u s.region s.told s.here is read;
  }

  -- The bits of a region into which all was written.

  module _ (v : List ℕ) (s : Stand) (last region : List ℕ) (is : IsReached meaning graph literals plan runs v s) (written : IsWritten graph (plan_layout plan) s last region) (left : AreLeftToEnd graph plan.patterns v last)
      (spared : AreSparesUnset (plan_layout plan) region) where
    told-bits : AreBitsOf region told_at (here_at (length plan.singles)) plan.singles (λ id. (to : ℕ) × IsReport plan.patterns v false id to)
    told-bits = record {
      each = λ n id named.
          let (x, at) = there (singles_of graph.identifiers.items) n (omega (arith, slice_get_within plan.singles n id named, singles-count meaning graph literals plan runs)) in
          let same : x.id.0 ≡ id = same_Some x.id.0 id (sym (single-named n x at) ∙ named) in
          let one : IsSingleAt graph.identifiers.items n x = single-of graph.identifiers.items n x at in
          let read = written.read one.place x one.there in
          let single : is_single plan.patterns x.id.0 ≡ true = runs.single one.place x one.there ∙ one.is in
          let bit : has_bit region (8 * told_at + n) ≡ has_word_bit s.told one.place = ap (λ m. has_bit region (8 * told_at + m)) (sym one.number) ∙ sym (read.told_is one.is) in
          subst (λ z. (has_bit region (8 * told_at + n) ≡ true) ↔ ((to : ℕ) × IsReport plan.patterns v false z to)) same
          (value-tells (has_bit region (8 * told_at + n)) (has_word_bit s.told one.place) ((to : ℕ) × IsReport plan.patterns v false x.id.0 to) bit ((is.known.heard one.place x one.there).told single));
      spare = λ k low high. spared k (inl (low, high));
    }

    record IsThere (p id : ℕ) : Type 0 where
      x : Identifier
      at : slice_get graph.identifiers.items p ≡ Some x
      same : x.id.0 ≡ id

    is-there : (p id : ℕ) → slice_get plan.identifiers p ≡ Some id → IsThere p id
    is-there p id named =
        let (x, at) = there graph.identifiers.items p (omega (arith, slice_get_within plan.identifiers p id named, ids-count meaning graph literals plan runs)) in
        record { x = x; at = at; same = same_Some x.id.0 id (sym (id-named p x at) ∙ named) }

    here-bits : AreBitsOf region (here_at (length plan.singles)) (last_at (length plan.singles) (length plan.identifiers)) plan.identifiers (λ id. IsReport plan.patterns v false id (length v))
    here-bits = record {
      each = λ p id named.
          let one : IsThere p id = is-there p id named in
          let place : ℕ = 8 * here_at (length plan.singles) + p in
          subst (λ z. (has_bit region place ≡ true) ↔ IsReport plan.patterns v false z (length v)) one.same
          (value-tells (has_bit region place) (has_word_bit s.here p) (IsReport plan.patterns v false one.x.id.0 (length v)) (sym (written.read p one.x one.at).here_is) (is.known.heard p one.x one.at).here);
      spare = λ k low high. spared k (inr (inl (low, high)));
    }

    last-bits : AreBitsOf region (last_at (length plan.singles) (length plan.identifiers)) (fields_at (length plan.singles) (length plan.identifiers)) plan.identifiers (λ id. IsLeftToEnd plan.patterns v id)
    last-bits = record {
      each = λ p id named.
          let one : IsThere p id = is-there p id named in
          let place : ℕ = 8 * last_at (length plan.singles) (length plan.identifiers) + p in
          subst (λ z. (has_bit region place ≡ true) ↔ IsLeftToEnd plan.patterns v z) one.same
          (value-tells (has_bit region place) (has_word_bit last p) (IsLeftToEnd plan.patterns v one.x.id.0) (sym (written.last_is p one.x one.at)) (left p one.x one.at));
      spare = λ k low high. spared k (inr (inr (low, high)));
    }

    held-there : AreNodesHeld meaning graph.table runs.pieces region v
    held-there k node at piece own =
        subst (λ bytes. HoldsPiece meaning graph.table.engines.items node.kind (parent_pieces runs.pieces node.parent) piece bytes v) (sym (written.fields k node at)) (is.held k node at piece own)

    -- What a scan has behind v, written into a region, is the region of v.
    pub region-end : length v ≤ greatest_offset → IsRegion plan v region
    region-end room =
        let len : length region ≡ plan_size plan = written.len ∙ plan-size plan in
        record {
          within = room;
          len = len;
          bytes = written.bytes;
          offset = written.offset ∙ is.offset;
          history = written.past ∙ is.past;
          told = told-bits;
          here = here-bits;
          last = last-bits;
          fields = nodes-end meaning graph literals plan runs v region len written.bytes held-there written.copied;
        }

-- Nothing is left to the end behind a byte that isn't a line feed.
pub none-left : (P : List Pattern) (u : List ℕ) (b id : ℕ) → (b ≡ line_feed → ⊥) → IsLeftToEnd P (u ++ b ∷ []) id → ⊥
none-left P u b id other left =
    let here : left.to ≡ length u = omega (arith, left.before, length-append u (b ∷ [])) in
    by-report (is_single P id) refl (subst (IsReport P (u ++ b ∷ []) true id) here left.at_end) (subst (λ to. IsReport P (u ++ b ∷ []) false id to → ⊥) here left.not_yet)
  where
    pair : IsReport P (u ++ b ∷ []) true id (length u) → IsPair P (u ++ b ∷ []) false id (length u)
    pair report = pair-before_end P u b id other (report-pair_now P (u ++ b ∷ []) true id (length u) report)

    single-none : IsReport P (u ++ b ∷ []) true id (length u) → IsReport P (u ++ b ∷ []) true id (length u) → is_single P id ≡ true → (IsReport P (u ++ b ∷ []) false id (length u) → ⊥) → ⊥
    single-none report (each many _) single fresh = absurd (cc)
    single-none report (first _ least) single fresh = fresh (first single least)
    single-none report (first_at_end _ nothing least) single fresh = nothing (length u) (pair report)

    by-report : (s : Bool) → is_single P id ≡ s → IsReport P (u ++ b ∷ []) true id (length u) → (IsReport P (u ++ b ∷ []) false id (length u) → ⊥) → ⊥
    by-report false many report fresh = fresh (each many (pair report))
    by-report true single report fresh = single-none report report single fresh
