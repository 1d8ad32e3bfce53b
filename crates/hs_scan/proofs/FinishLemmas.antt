-- What only the end of a stream decides, from what its region keeps.
use Rattle.std.proofs.Common.{◌≡◌, ◌↔◌, ℕ, ◌+◌, ◌-◌, ◌*◌, ◌<◌, Bool, true, List, ◌++◌, length, Some, slice_get, sym, ap, subst, ◌∙◌, arith}
use Rattle.std.specs.Prelude.{slice_index_or, slice_range}
use Rattle.std.specs.Option.{option_map}
use Rattle.std.proofs.lemmas.List.{length-map}
use Rattle.std.proofs.lemmas.Option.{get_or_from_slice_get, same_Some, slice_get-map, slice_get_within}
use Rattle.hs_base.specs.declared.context.Next.TheVariants as after
use Rattle.hs_base.specs.Bits.{has_bit}
use Rattle.hs_base.specs.Lists.{Each, IsMember}
use Rattle.hs_base.specs.Literals.{LiteralByte}
use Rattle.hs_base.specs.Regions.{IsRegion, Plan, last_at, region_offset}
use Rattle.hs_base.specs.Settling.{AreIdentifiers, AreRising, IsKept, IsLeftToEnd, tells_end}
use Rattle.hs_base.specs.Settling.{pairs_told}
use Rattle.hs_base.specs.Told.{IsLast}
use Rattle.hs_base.proofs.ListLemmas.{each-of_members, one_of-map}
use Rattle.hs_base.proofs.PairListLemmas.{IsNewAtEnd, last-reports, tell-by, values_by}
use Rattle.hs_base.proofs.SettlingLemmas.{end-settled}
use Rattle.hs_engine.specs.Engines.{Meaning}
use Rattle.hs_layout.specs.Layouts.{Laid}
use Rattle.hs_nodes.specs.Graphs.{RunsPlan, plan_layout}
use Rattle.hs_nodes.specs.declared.graph.Graph.{Graph}
use Rattle.hs_reports.specs.Chunks.{pairs_where}
use Rattle.hs_reports.specs.EndTables.{EndTable, words_of}
use Rattle.hs_reports.specs.Identifiers.{numbers_of}
use Rattle.hs_reports.specs.Pairs.{ArePairsOf}
use Rattle.hs_reports.specs.WordBits.{word_bit}
use Rattle.hs_reports.specs.declared.identifier.Identifier.{Identifier}
use Rattle.hs_reports.proofs.PairsLemmas.{pairs-join, pairs-one, pairs-widen}
use Rattle.hs_scan.specs.Asking.{AsksEnds}
use Rattle.hs_scan.specs.Feeding.{Finishes}
use Rattle.hs_nodes.specs.WellRegions.{RunsLaid}
use Rattle.hs_keeping.specs.Finishing.{due_at_end, is_due, kept_at, no_identifier}
use Rattle.hs_keeping.specs.Keeping.{AreRead}
use Rattle.hs_scan.specs.Scans.{IsReached, stand}
use Rattle.hs_nodes.proofs.NodeLemmas.{there}
use Rattle.hs_scan.proofs.RegionLemmas.{reached-begin}

-- with two ends, whatever is told of the identifiers
told-two : (ids : List ℕ) (values values' : List Bool) (at offset : ℕ) → at ≡ offset → ArePairsOf ids (offset - 1) offset (pairs_told ids values (at - 1) ++ pairs_told ids values' at)
told-two ids values values' at offset is =
    let xs = pairs_told ids values (at - 1) in
    let ys = pairs_told ids values' at in
    let all : Each (λ id. IsMember id ids) ids = each-of_members (λ id. IsMember id ids) ids (λ id member. member) in
    subst (λ n. ArePairsOf ids (n - 1) n (xs ++ ys)) is
    (pairs-join ids (at - 1) (at - 1) at xs ys (omega arith) (omega arith) (pairs-one ids ids values (at - 1) all)
    (pairs-widen ids at at (at - 1) at ys (omega arith) (omega arith) (pairs-one ids ids values' at all)))

module _ {E : Type 0} (meaning : E → Meaning) (graph : Graph E) (literals : List (List LiteralByte)) where
  are-identifiers : (plan : Plan) → RunsPlan meaning graph literals plan → AreIdentifiers plan.patterns (numbers_of graph.identifiers.items)
  are-identifiers plan runs = record {
    rising = subst AreRising (sym runs.ids) runs.is_plan.identifiers;
    each = each-of_members (λ x. IsMember x.id (numbers_of graph.identifiers.items)) plan.patterns (λ x member.
        subst (λ ys. IsMember x.id ys) (sym runs.ids)
        ((runs.is_plan.named x.id).1 (one_of-map (λ y. x ≡ y) (λ y. y.id ≡ x.id) plan.patterns (λ y same. sym (ap (λ z. z.id) same)) member)));
  }

  record IsNamed (p id : ℕ) : Type 0 where
    x : Identifier
    at : slice_get graph.identifiers.items p ≡ Some x
    same : x.id.0 ≡ id

  named : (p id : ℕ) → slice_get (numbers_of graph.identifiers.items) p ≡ Some id → IsNamed p id
  named p id at =
      let (x, here) = there graph.identifiers.items p (omega (arith, slice_get_within (numbers_of graph.identifiers.items) p id at, length-map graph.identifiers.items (λ (y : Identifier). y.id.0))) in
      record { x = x; at = here; same = same_Some x.id.0 id (sym (slice_get-map (λ (y : Identifier). y.id.0) graph.identifiers.items p ∙ ap (option_map (λ (y : Identifier). y.id.0)) here) ∙ at) }

  -- for each stream
  ends-last : (l : Laid) (region told here : List ℕ) (finals : EndTable) (at : ℕ) (past : List ℕ) → at ≡ region_offset region → past ≡ slice_range region 8 72 → AreRead l region graph.identifiers.items told here → AsksEnds meaning graph literals at past region after.End finals →
      (plan : Plan) (u : List ℕ) → RunsLaid meaning graph literals l plan → Each (λ b. b < 256) u → IsRegion plan u region →
      IsLast plan.patterns u (pairs_where (numbers_of graph.identifiers.items) (λ p. has_bit region (8 * last_at l.singles l.identifiers + p)) (at - 1) ++ pairs_where (numbers_of graph.identifiers.items) (due_at_end l region told here finals graph.identifiers.items) at)
  ends-last l region told here finals at past at_is past_is read asks plan u runs_laid each is =
      let runs = runs_laid.runs in
      let laid : l ≡ plan_layout plan = runs_laid.laid in
      let ids = numbers_of graph.identifiers.items in
      let P = plan.patterns in
      let begun : IsReached meaning graph literals plan runs u (stand at past region told here) =
      reached-begin meaning graph literals plan runs u (stand at past region told here) each is at_is past_is (subst (λ m. AreRead m region graph.identifiers.items told here) laid read) in
      let lasts : (i id : ℕ) → slice_get ids i ≡ Some id → (has_bit region (8 * last_at l.singles l.identifiers + i) ≡ true) ↔ IsLeftToEnd P u id =
      λ i id at_i. subst (λ m. (has_bit region (8 * last_at m.singles m.identifiers + i) ≡ true) ↔ IsLeftToEnd P u id) (sym laid) (is.last.each i id (subst (λ ys. slice_get ys i ≡ Some id) runs.ids at_i)) in
      let ends : (i id : ℕ) → slice_get ids i ≡ Some id → (due_at_end l region told here finals graph.identifiers.items i ≡ true) ↔ IsNewAtEnd P u id =
      λ i id at_i.
      let one = named i id at_i in
      let kept : IsKept P u one.x.id.0 (kept_at l region told here i) = record { told = (begun.known.heard i one.x one.at).told; here = (begun.known.heard i one.x one.at).here; last = subst (λ n. (has_bit region (8 * last_at l.singles l.identifiers + i) ≡ true) ↔ IsLeftToEnd P u n) (sym one.same) (lasts i id at_i) } in
      let ended = asks plan runs u begun.offset begun.past each begun.held i one.x one.at in
      let due = end-settled P u one.x.id.0 (kept_at l region told here i) (word_bit (words_of finals i).before 0) kept ended in
      let same : slice_index_or graph.identifiers.items i no_identifier ≡ one.x = get_or_from_slice_get graph.identifiers.items i one.x no_identifier one.at in
      subst (λ n. (due_at_end l region told here finals graph.identifiers.items i ≡ true) ↔ IsNewAtEnd P u n) one.same
      (subst (λ y. (is_due l region told here finals y i ≡ true) ↔ IsNewAtEnd P u one.x.id.0) (sym same)
      (subst (λ s. (tells_end s (kept_at l region told here i) (word_bit (words_of finals i).before 0) ≡ true) ↔ IsNewAtEnd P u one.x.id.0) (runs.single i one.x one.at) due)) in
      subst (λ n. IsLast P u (pairs_where ids (λ p. has_bit region (8 * last_at l.singles l.identifiers + p)) (n - 1) ++ pairs_where ids (due_at_end l region told here finals graph.identifiers.items) n)) (sym begun.offset)
      (last-reports P u ids (values_by (λ p. has_bit region (8 * last_at l.singles l.identifiers + p)) (length ids)) (values_by (due_at_end l region told here finals graph.identifiers.items) (length ids)) (are-identifiers plan runs)
      (tell-by ids (λ p. has_bit region (8 * last_at l.singles l.identifiers + p)) (IsLeftToEnd P u) lasts) (tell-by ids (due_at_end l region told here finals graph.identifiers.items) (IsNewAtEnd P u) ends))

  -- and of any region
  pub ends-finish : (l : Laid) (region told here : List ℕ) (finals : EndTable) (at : ℕ) (past : List ℕ) → at ≡ region_offset region → past ≡ slice_range region 8 72 → AreRead l region graph.identifiers.items told here → AsksEnds meaning graph literals at past region after.End finals →
      Finishes meaning graph literals l region (pairs_where (numbers_of graph.identifiers.items) (λ p. has_bit region (8 * last_at l.singles l.identifiers + p)) (at - 1) ++ pairs_where (numbers_of graph.identifiers.items) (due_at_end l region told here finals graph.identifiers.items) at)
  ends-finish l region told here finals at past at_is past_is read asks = record {
    pairs_are =
        let ids = numbers_of graph.identifiers.items in
        told-two ids (values_by (λ p. has_bit region (8 * last_at l.singles l.identifiers + p)) (length ids)) (values_by (due_at_end l region told here finals graph.identifiers.items) (length ids)) at (region_offset region) at_is;
    finishes = λ plan u runs_laid each is. ends-last l region told here finals at past at_is past_is read asks plan u runs_laid each is;
  }
