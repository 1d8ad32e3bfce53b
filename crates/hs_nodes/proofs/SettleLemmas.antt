-- Marks that are taken away behind a chunk.
use Rattle.std.proofs.Common.{◌≡◌, ◌⊎◌, ℕ, ◌+◌, ◌<◌, ◌≤◌, true, false, List, length, Some, slice_get, slice_set, refl, sym, ap, subst, ◌∙◌, inl, inr, arith}
use Rattle.std.proofs.lemmas.Bool.{cases_eq, cases_lt}
use Rattle.std.proofs.lemmas.List.{get_or-set_same, get_or-set_other, get_or_past}
use Rattle.std.proofs.lemmas.Option.{slice_get_within}
use Rattle.hs_base.specs.Lists.{Each}
use Rattle.hs_base.proofs.BitLemmas.{zero-bits}
use Rattle.hs_engine.specs.Engines.{Meaning}
use Rattle.hs_nodes.proofs.NodeLemmas.{unmarked-before}
use Rattle.hs_nodes.specs.Left.{nowhere}
use Rattle.hs_bits.specs.Marks.{is_marked}
use Rattle.hs_nodes.specs.Nodes.{MayRest}
use Rattle.hs_nodes.specs.Resting.{AreNodesResting, IsResting, IsSettled, IsUnset, IsUnwokenIn, RestingNodesMayRest, RestingNodesStay}
use Rattle.hs_nodes.specs.Walks.{node_ends, node_part}
use Rattle.hs_nodes.specs.declared.ends.ChunkEnds.{ChunkEnds}
use Rattle.hs_nodes.specs.declared.hits.ChunkHits.{ChunkHits}
use Rattle.hs_nodes.specs.declared.table.Node.{Node}
use Rattle.hs_nodes.specs.declared.table.NodeKind.{NodeKind}
use Rattle.hs_nodes.specs.declared.table.NodeKind.TheVariants.{Engine, Literal, FirstLiteral, LookBack}
use Rattle.hs_nodes.specs.declared.table.NodeTable.{NodeTable}
use Rattle.hs_nodes.proofs.KindLemmas.{one-value}

module _ {E : Type 0} (meaning : E → Meaning) (table : NodeTable E) where
  -- The marks of the nodes before one of them are settled.
  pub record IsSettledTo (region first marks : List ℕ) (ends : List ChunkEnds) (n : ℕ) : Type 0 where
    pub room : length marks ≡ length first
    pub later : (k : ℕ) → n ≤ k → is_marked marks k ≡ is_marked first k
    pub fewer : (k : ℕ) → is_marked marks k ≡ true → is_marked first k ≡ true
    pub taken : (k : ℕ) (node : Node) → k < n → slice_get table.nodes.items k ≡ Some node → IsUnset node.kind (node_part region node) → is_marked marks k ≡ false
    pub kept : (k : ℕ) (node : Node) → k < n → slice_get table.nodes.items k ≡ Some node → (IsUnset node.kind (node_part region node) → ⊥) → is_marked marks k ≡ is_marked first k
    pub resting : (k : ℕ) (node : Node) → k < n → slice_get table.nodes.items k ≡ Some node → is_marked marks k ≡ false → IsResting meaning table.engines.items node.kind (node_part region node)
    pub clear : (k : ℕ) → k < n → node_ends ends k ≡ nowhere
    pub unmarked : (k : ℕ) → n ≤ k → k < length table.nodes.items → is_marked first k ≡ false → node_ends ends k ≡ nowhere

  module _ (region first : List ℕ) (rests : AreNodesResting meaning table first region) where
    pub settled-none : (ends : List ChunkEnds) → ((k : ℕ) → k < length table.nodes.items → is_marked first k ≡ false → node_ends ends k ≡ nowhere) → IsSettledTo region first first ends 0
    settled-none ends clear = record {
      room = refl;
      later = λ k high. refl;
      fewer = λ k set. set;
      taken = λ k node low at. absurd (omega arith);
      kept = λ k node low at. absurd (omega arith);
      resting = λ k node low at. absurd (omega arith);
      clear = λ k low. absurd (omega arith);
      unmarked = λ k high below none. clear k below none;
    }

    -- the nodes up to the next marked one
    pub settled-pass : (marks : List ℕ) (ends : List ChunkEnds) (n m : ℕ) → n ≤ m → m ≤ length table.nodes.items → ((j : ℕ) → n ≤ j → j < m → is_marked marks j ≡ false) → IsSettledTo region first marks ends n → IsSettledTo region first marks ends m
    settled-pass marks ends n m up within none is = record {
      room = is.room;
      later = λ k high. is.later k (omega arith);
      fewer = is.fewer;
      taken = λ k node low at unset. elim (cases_lt k n) [ inl before ↦ is.taken k node before at unset | inr high ↦ none k high low ];
      kept = λ k node low at not. elim (cases_lt k n) [ inl before ↦ is.kept k node before at not | inr high ↦ is.later k high ];
      resting = λ k node low at off. elim (cases_lt k n) [ inl before ↦ is.resting k node before at off | inr high ↦ rests k node at (sym (is.later k high) ∙ off) ];
      clear = λ k low. elim (cases_lt k n) [ inl before ↦ is.clear k before | inr high ↦ is.unmarked k high (omega arith) (sym (is.later k high) ∙ none k high low) ];
      unmarked = λ k high below off. is.unmarked k (omega arith) below off;
    }

    -- and that one
    module _ (marks new : List ℕ) (ends : List ChunkEnds) (n m : ℕ) (next : m ≡ n + 1) (own : Node) (there : slice_get table.nodes.items n ≡ Some own) (count : length ends ≡ length table.nodes.items) (room : length new ≡ length marks) (others : (k : ℕ) → (k ≡ n → ⊥) → is_marked new k ≡ is_marked marks k)
        (fewer : is_marked new n ≡ true → is_marked marks n ≡ true) (taken : IsUnset own.kind (node_part region own) → is_marked new n ≡ false) (kept : (IsUnset own.kind (node_part region own) → ⊥) → is_marked new n ≡ is_marked marks n)
        (resting : is_marked new n ≡ false → IsResting meaning table.engines.items own.kind (node_part region own)) (is : IsSettledTo region first marks ends n) where
      below-or : (k : ℕ) → k < m → (k < n) ⊎ (k ≡ n)
      below-or k low = elim (cases_eq k n) [ inl same ↦ inr same | inr apart ↦ inl (omega arith) ]

      low-apart : (k : ℕ) → k < n → k ≡ n → ⊥
      low-apart k low same = absurd (omega arith)

      same-node : (k : ℕ) (node : Node) → slice_get table.nodes.items k ≡ Some node → k ≡ n → own ≡ node
      same-node k node at same = one-value own node (slice_get table.nodes.items n) there (ap (λ i. slice_get table.nodes.items i) (sym same) ∙ at)

      fewer-by : (k : ℕ) → is_marked new k ≡ true → (k ≡ n) ⊎ (k ≡ n → ⊥) → is_marked first k ≡ true
      fewer-by k set (inl same) = subst (λ i. is_marked first i ≡ true) (sym same) (is.fewer n (fewer (subst (λ i. is_marked new i ≡ true) same set)))
      fewer-by k set (inr apart) = is.fewer k (sym (others k apart) ∙ set)

      pub settled-visit : IsSettledTo region first new (slice_set ends n nowhere) m
      settled-visit = record {
        room = room ∙ is.room;
        later = λ k high. others k (let up : k ≡ n → ⊥ = λ same. absurd (omega arith) in up) ∙ is.later k (omega arith);
        fewer = λ k set. fewer-by k set (cases_eq k n);
        taken = λ k node low at unset. elim (below-or k low) [
          | inl before ↦ others k (low-apart k before) ∙ is.taken k node before at unset
          | inr same ↦ ap (λ i. is_marked new i) same ∙ taken (subst (λ (nd : Node). IsUnset nd.kind (node_part region nd)) (sym (same-node k node at same)) unset)
        ];
        kept = λ k node low at not. elim (below-or k low) [
          | inl before ↦ others k (low-apart k before) ∙ is.kept k node before at not
          | inr same ↦ ap (λ i. is_marked new i) same ∙ (kept (λ unset. not (subst (λ (nd : Node). IsUnset nd.kind (node_part region nd)) (same-node k node at same) unset)) ∙ (is.later n (omega arith) ∙ ap (λ i. is_marked first i) (sym same)))
        ];
        resting = λ k node low at off. elim (below-or k low) [
          | inl before ↦ is.resting k node before at (sym (others k (low-apart k before)) ∙ off)
          | inr same ↦ subst (λ (nd : Node). IsResting meaning table.engines.items nd.kind (node_part region nd)) (same-node k node at same) (resting (subst (λ i. is_marked new i ≡ false) same off))
        ];
        clear = λ k low. elim (below-or k low) [
          | inl before ↦ get_or-set_other ends n k nowhere nowhere (low-apart k before) ∙ is.clear k before
          | inr same ↦ ap (λ i. node_ends (slice_set ends n nowhere) i) same ∙ get_or-set_same ends n nowhere nowhere (omega (arith, count, slice_get_within table.nodes.items n own there))
        ];
        unmarked = λ k high below off. get_or-set_other ends n k nowhere nowhere (let up : k ≡ n → ⊥ = λ same. absurd (omega arith) in up) ∙ is.unmarked k (omega arith) below off;
      }

    -- all of them
    pub settled-all : (marks : List ℕ) (ends : List ChunkEnds) → length ends ≡ length table.nodes.items → IsSettledTo region first marks ends (length table.nodes.items) → IsSettled meaning table region first marks ends
    settled-all marks ends count is = record {
      room = is.room;
      fewer = is.fewer;
      taken = λ k node at. is.taken k node (slice_get_within table.nodes.items k node at) at;
      kept = λ k node at. is.kept k node (slice_get_within table.nodes.items k node at) at;
      resting = λ k node at. is.resting k node (slice_get_within table.nodes.items k node at) at;
      clear = λ k. elim (cases_lt k (length table.nodes.items)) [ inl below ↦ is.clear k below | inr past ↦ get_or_past ends k nowhere (omega arith) ];
    }

  -- the laws

  rest-by : (kind : NodeKind) (hits : List ChunkHits) (part : List ℕ) (prev : _) (bytes : List ℕ) (parent : _) → Each (λ b. b < 256) bytes → IsResting meaning table.engines.items kind part → IsUnwokenIn meaning table.engines.items kind parent hits prev bytes → MayRest meaning table.engines.items kind parent hits part prev bytes
  rest-by (Engine number null) hits part prev bytes parent small rests unwoken = λ e there. (
    (rests e there).rests,
    λ no_parent. record {
      never_empty = (unwoken no_parent).0;
      asleep = (unwoken no_parent).1 e there part (rests e there);
    },
  )
  rest-by (Literal number len) hits part prev bytes parent small rests unwoken = (zero-bits part rests, unwoken)
  rest-by (FirstLiteral number len) hits part prev bytes parent small rests unwoken = unwoken
  rest-by (LookBack pair) hits part prev bytes parent small rests unwoken = unwoken

  pub resting-may : RestingNodesMayRest meaning table
  resting-may marks hits region bytes prev small rests unwoken k node there none = rest-by node.kind hits (node_part region node) prev bytes node.parent small (rests k node there none) (unwoken k node there none)

  pub resting-stay : RestingNodesStay meaning table
  resting-stay old new region region' ends more changes rests k node there none =
      subst (λ ps. IsResting meaning table.engines.items node.kind ps) (sym (changes.unmarked k node there none).1) (rests k node there (unmarked-before old new k more.kept none))
