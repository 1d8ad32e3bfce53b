-- What is loaded of nodes into a cache, and what it then tells of them.
use Rattle.std.proofs.Common.{◌≡◌, ℕ, ◌+◌, ◌-◌, ◌<◌, ◌≤◌, Bool, true, false, List, length, slice_get, Option, Some, None, refl, sym, ap, subst, ◌∙◌, inl, inr, arith}
use Rattle.std.proofs.lemmas.Bool.{cases_eq, cases_lt}
use Rattle.std.proofs.lemmas.Option.{slice_get_within}
use Rattle.hs_base.specs.declared.context.Mask.{Mask}
use Rattle.hs_base.specs.declared.context.Prev.{Prev}
use Rattle.hs_base.specs.Bits.{AreZero}
use Rattle.hs_engine.specs.Engines.{Meaning}
use Rattle.hs_lazy.specs.Caches.{IsSilent, TellsRun, Told, loaded, told}
use Rattle.hs_lazy.specs.Tables.{engine_at}
use Rattle.hs_lazy.specs.declared.cache.Cache.{Cache}
use Rattle.hs_bits.specs.Marks.{is_marked}
use Rattle.hs_nodes.proofs.NodeLemmas.{there, unmarked-before}
use Rattle.hs_nodes.specs.Cached.{AreToldAsleep, IsCacheOf, IsCachedNode, TellsNodes}
use Rattle.hs_nodes.specs.Loading.{IsLoadedTo}
use Rattle.hs_nodes.specs.Nodes.{IsEngineSound, IsKindSound}
use Rattle.hs_nodes.specs.Resting.{AreNodesResting, IsResting}
use Rattle.hs_nodes.specs.Walks.{IsTableSound, node_part}
use Rattle.hs_nodes.specs.Waking.{IsKindAsleep}
use Rattle.hs_nodes.specs.declared.table.Node.{Node}
use Rattle.hs_nodes.specs.declared.table.NodeKind.{NodeKind}
use Rattle.hs_nodes.specs.declared.table.NodeKind.TheVariants.{Engine}
use Rattle.hs_nodes.specs.declared.table.NodeTable.{NodeTable}
use Rattle.hs_nodes.proofs.CachedLemmas.{told-sleeps}
use Rattle.hs_nodes.proofs.KindLemmas.{one-value}
use Rattle.hs_nodes.proofs.LivingLemmas.{zeros-same}
use Rattle.hs_nodes.proofs.RangeLemmas.{range-length}

same-engine : (a b : ℕ) (n m : Option Mask) → Engine a n ≡ Engine b m → a ≡ b
same-engine a b n m e = cc

-- one more marked node is loaded
pub load-more : {E : Type 0} (table : NodeTable E) (region marks : List ℕ) (old new : Cache) (from k next : ℕ) (own : Node) → next ≡ k + 1 → slice_get table.nodes.items k ≡ Some own → is_marked marks k ≡ true → from ≤ k → ((j : ℕ) → from ≤ j → j < k → is_marked marks j ≡ false) → new.dfas ≡ old.dfas →
    ((n : ℕ) → engine_at old.dfas k ≡ Some n → loaded new k ≡ node_part region own) → ((j : ℕ) → (j ≡ k → ⊥) → loaded new j ≡ loaded old j) → IsLoadedTo table region marks old from → IsLoadedTo table region marks new next
load-more table region marks old new from k next own next_is at on low least dfas here others before = record {
  marked = λ j number node below marked is there. elim (cases_eq j k) [
    | inl same ↦
        let one : own ≡ node = one-value own node (slice_get table.nodes.items k) at (ap (slice_get table.nodes.items) (sym same) ∙ there) in
        ap (loaded new) same ∙ (here number (ap (λ d. engine_at d k) (sym dfas) ∙ (ap (engine_at new.dfas) (sym same) ∙ is)) ∙ ap (node_part region) one)
    | inr apart ↦ elim (cases_lt j from) [
      | inl earlier ↦ others j apart ∙ before.marked j number node earlier marked (ap (λ d. engine_at d j) (sym dfas) ∙ is) there
      | inr past ↦ absurd (let both : true ≡ false = sym marked ∙ least j (omega arith) (omega (arith, below, next_is, apart)) in cc)
    ]
  ];
  others = λ j off. elim (cases_eq j k) [
    | inl same ↦ absurd (let both : true ≡ false = sym on ∙ (ap (is_marked marks) (sym same) ∙ off) in cc)
    | inr apart ↦ subst (λ xs. AreZero xs) (sym (others j apart)) (before.others j off)
  ];
}

-- none is marked from there on
pub loaded-past : {E : Type 0} (table : NodeTable E) (region marks : List ℕ) (cache : Cache) (from end : ℕ) → ((j : ℕ) → from ≤ j → j < end → is_marked marks j ≡ false) → IsLoadedTo table region marks cache from → IsLoadedTo table region marks cache end
loaded-past table region marks cache from end none before = record {
  marked = λ j number node below marked is there. elim (cases_lt j from) [
    | inl earlier ↦ before.marked j number node earlier marked is there
    | inr past ↦ absurd (let both : true ≡ false = sym marked ∙ none j (omega arith) below in cc)
  ];
  others = before.others;
}

module _ {E : Type 0} (meaning : E → Meaning) (table : NodeTable E) where
  -- the nodes of a cache are there
  pub cached-below : (cache : Cache) → IsCacheOf meaning table cache → (k n : ℕ) → engine_at cache.dfas k ≡ Some n → k < length table.nodes.items
  cached-below cache are k n is = let own = are.nodes k n is in slice_get_within table.nodes.items k own.node own.there

  pub engine-sound : (literals size : ℕ) → IsTableSound meaning table literals size → (k number : ℕ) (null : Option Mask) (node : Node) → slice_get table.nodes.items k ≡ Some node → node.kind ≡ Engine number null → IsEngineSound meaning table.engines.items number (node.end - node.start)
  engine-sound literals size sound k number null node at is = subst (λ (kind : NodeKind). IsKindSound meaning table.engines.items literals kind (node.end - node.start)) is (sound.kinds k node at)

  -- a cache to which one more node is added, or not
  pub more-nodes : (old new : Cache) (k number : ℕ) → IsCacheOf meaning table old → IsCachedNode meaning table k number → ((n : ℕ) → engine_at new.dfas k ≡ Some n → n ≡ number) → ((j : ℕ) → (j ≡ k → ⊥) → engine_at new.dfas j ≡ engine_at old.dfas j) → (j n : ℕ) → engine_at new.dfas j ≡ Some n → IsCachedNode meaning table j n
  more-nodes old new k number are is own others j n at = elim (cases_eq j k) [
    | inl same ↦ subst (λ i. IsCachedNode meaning table i n) (sym same) (subst (λ i. IsCachedNode meaning table k i) (sym (own n (ap (λ i. engine_at new.dfas i) (sym same) ∙ at))) is)
    | inr apart ↦ are.nodes j n (sym (others j apart) ∙ at)
  ]

  module _ (literals : ℕ) (region : List ℕ) (sound : IsTableSound meaning table literals (length region)) where
    pub part-sized : (k number : ℕ) (null : Option Mask) (node : Node) (e : E) → slice_get table.nodes.items k ≡ Some node → node.kind ≡ Engine number null → slice_get table.engines.items number ≡ Some e → length (node_part region node) ≡ (meaning e).width
    part-sized k number null node e at is at_e =
        range-length region node.start node.end (sound.order k node at) (sound.within k node at) ∙ sym ((engine-sound literals (length region) sound k number null node at is).each e at_e).0

    -- the region of a number has the length of what is kept of its node
    pub load-sized : (cache : Cache) → IsCacheOf meaning table cache → ((k n : ℕ) (e : E) → engine_at cache.dfas k ≡ Some n → slice_get table.engines.items n ≡ Some e → length (loaded cache k) ≡ (meaning e).width) →
        (k n : ℕ) (node : Node) → engine_at cache.dfas k ≡ Some n → slice_get table.nodes.items k ≡ Some node → length (loaded cache k) ≡ length (node_part region node)
    load-sized cache are sizes k n node is at =
        let own = are.nodes k n is in
        let same : own.node ≡ node = one-value own.node node (slice_get table.nodes.items k) own.there at in
        let (e, at_e) = there table.engines.items n (are.dfas.there k n is) in
        sizes k n e is at_e ∙ sym (part-sized k n None node e at (ap (λ (x : Node). x.kind) (sym same) ∙ own.kind_is) at_e)

    -- all marked nodes are loaded, and in the others nothing is live
    module _ (marks : List ℕ) (start cache : Cache) (count : ℕ) (are : IsCacheOf meaning table start) (dfas : cache.dfas ≡ start.dfas) (sizes : (k n : ℕ) (e : E) → engine_at cache.dfas k ≡ Some n → slice_get table.engines.items n ≡ Some e → length (loaded cache k) ≡ (meaning e).width)
        (below : (k : ℕ) → is_marked marks k ≡ true → k < count) (resting : AreNodesResting meaning table marks region) (is_loaded : IsLoadedTo table region marks cache count) where
      now-of : (k n : ℕ) → engine_at start.dfas k ≡ Some n → engine_at cache.dfas k ≡ Some n
      now-of k n is = ap (λ d. engine_at d k) dfas ∙ is

      unmarked-zero : (k number : ℕ) (node : Node) (e : E) → slice_get table.nodes.items k ≡ Some node → node.kind ≡ Engine number None → slice_get table.engines.items number ≡ Some e → is_marked marks k ≡ false → AreZero (node_part region node)
      unmarked-zero k number node e at is at_e none = (subst (λ (kind : NodeKind). IsResting meaning table.engines.items kind (node_part region node)) is (resting k node at none) e at_e).zero

      by-mark : (k number : ℕ) (node : Node) (e : E) → engine_at start.dfas k ≡ Some number → slice_get table.nodes.items k ≡ Some node → node.kind ≡ Engine number None → slice_get table.engines.items number ≡ Some e → (b : Bool) → is_marked marks k ≡ b → loaded cache k ≡ node_part region node
      by-mark k number node e is at kind_is at_e true on = is_loaded.marked k number node (below k on) on (now-of k number is) at
      by-mark k number node e is at kind_is at_e false off =
          zeros-same (loaded cache k) (node_part region node) (sizes k number e (now-of k number is) at_e ∙ sym (part-sized k number None node e at kind_is at_e)) (is_loaded.others k off) (unmarked-zero k number node e at kind_is at_e off)

      pub all-loaded : (k number : ℕ) (node : Node) (e : E) → engine_at start.dfas k ≡ Some number → slice_get table.nodes.items k ≡ Some node → node.kind ≡ Engine number None → slice_get table.engines.items number ≡ Some e → loaded cache k ≡ node_part region node
      all-loaded k number node e is at kind_is at_e = by-mark k number node e is at kind_is at_e (is_marked marks k) refl

      -- what the cache then tells
      module _ (new : Cache) (prev : Prev) (bytes : List ℕ) (of : (k : ℕ) (t : Told) → told new k ≡ Some t → engine_at cache.dfas k ≡ Some t.engine)
          (tells : (k : ℕ) (t : Told) (e : E) → told new k ≡ Some t → slice_get table.engines.items t.engine ≡ Some e → TellsRun (meaning e) (loaded cache k) prev bytes t) where
        start-of : (k : ℕ) (t : Told) → told new k ≡ Some t → engine_at start.dfas k ≡ Some t.engine
        start-of k t is = ap (λ d. engine_at d k) (sym dfas) ∙ of k t is

        kind-of : (k : ℕ) (t : Told) (node : Node) → told new k ≡ Some t → slice_get table.nodes.items k ≡ Some node → node.kind ≡ Engine t.engine None
        kind-of k t node is at =
            let own = are.nodes k t.engine (start-of k t is) in
            ap (λ (x : Node). x.kind) (one-value node own.node (slice_get table.nodes.items k) at own.there) ∙ own.kind_is

        pub tells-nodes : TellsNodes meaning table new region prev bytes
        tells-nodes k t node is at number null e kind_is at_e =
            let own = kind-of k t node is at in
            let same : t.engine ≡ number = same-engine t.engine number None null (sym own ∙ kind_is) in
            let at_t : slice_get table.engines.items t.engine ≡ Some e = ap (slice_get table.engines.items) same ∙ at_e in
            subst (λ rs. TellsRun (meaning e) rs prev bytes t) (all-loaded k t.engine node e (start-of k t is) at own at_t) (tells k t e is at_t)

        pub told-asleep : (after : List ℕ) → ((k : ℕ) → is_marked marks k ≡ true → is_marked after k ≡ true) → ((k : ℕ) (t : Told) → told new k ≡ Some t → is_marked after k ≡ false → IsSilent t) → AreToldAsleep meaning table new after prev bytes
        told-asleep after kept silent k t node is at none =
            let own = kind-of k t node is at in
            subst (λ (kind : NodeKind). IsKindAsleep meaning table.engines.items kind prev bytes) (sym own) (
              refl,
              λ e at_e.
                  let off = unmarked-before marks after k kept none in
                  told-sleeps (meaning e) (loaded cache k) prev bytes t (tells k t e is at_e) (sizes k t.engine e (of k t is) at_e) (is_loaded.others k off) (silent k t is none),
            )
