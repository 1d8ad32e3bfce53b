-- Nodes that a chunk doesn't wake.
use Rattle.std.proofs.Common.{◌≡◌, ℕ, ◌+◌, ◌<◌, ◌≤◌, Bool, true, false, List, length, Option, Some, None, slice_get, refl, sym, ap, subst, ◌∙◌, inl, inr, arith}
use Rattle.std.specs.Prelude.{EachIndex, slice_index}
use Rattle.std.proofs.lemmas.Bool.{cases_eq}
use Rattle.hs_base.specs.Bits.{has_word_bit}
use Rattle.hs_base.specs.declared.context.Mask.{Mask}
use Rattle.hs_base.specs.declared.context.Prev.{Prev}
use Rattle.hs_engine.specs.Engines.{Meaning}
use Rattle.hs_base.specs.Contexts.{class_of}
use Rattle.hs_base.specs.declared.context.Next.TheVariants as after
use Rattle.hs_waking.specs.WakeRows.{SleepsOver}
use Rattle.hs_nodes.proofs.NodeLemmas.{unmarked-before}
use Rattle.hs_nodes.specs.Nodes.{PassesOver}
use Rattle.hs_nodes.specs.Hits.{is_hit_at}
use Rattle.hs_bits.specs.Marks.{is_marked}
use Rattle.hs_nodes.specs.Resting.{AreNodesResting, AreNodesUnwoken, IsUnwokenIn, SleepsThrough}
use Rattle.hs_nodes.specs.Waking.{AreEnginesUnwoken, AreRowsSound, AreStartsBy, AreWakesSound, IsKindAsleep, IsListed, is_never_empty, waking_literal}
use Rattle.hs_nodes.specs.Walks.{AreMoreMarks, IsAmongChildren}
use Rattle.hs_nodes.specs.declared.hits.ChunkHits.{ChunkHits}
use Rattle.hs_nodes.specs.declared.table.Node.{Node}
use Rattle.hs_nodes.specs.declared.table.NodeKind.{NodeKind}
use Rattle.hs_nodes.specs.declared.table.NodeKind.TheVariants.{Engine, Literal, FirstLiteral, LookBack}
use Rattle.hs_nodes.specs.declared.table.NodeTable.{NodeTable}
use Rattle.hs_nodes.specs.declared.wake_table.WakeTable.{WakeTable}
use Rattle.hs_waking.proofs.AnyLemmas.{true-false}

-- what sleeps over bytes passes over them
pub sleeps-passes : (m : Meaning) (region : List ℕ) (prev : Prev) (bytes : List ℕ) → SleepsOver m region prev bytes → PassesOver m region prev bytes
sleeps-passes m region prev bytes sleeps tree u entered runs count last field = record {
  field = sleeps.stays tree u entered runs count last field;
  before_is = λ i low. ((λ set. absurd (cc)), λ leaves. absurd (sleeps.leaves_nothing tree u entered runs count last field i (omega arith) (omega arith) (class_of (slice_index bytes i)) leaves));
  behind_is = λ i low. ((λ set. absurd (cc)), λ leaves. absurd (sleeps.leaves_nothing tree u entered runs count last field (i + 1) (omega arith) (omega arith) after.Unknown leaves));
}

-- a mark that isn't there
none-or : (b : Bool) → (b ≡ true → ⊥) → b ≡ false
none-or true not = absurd (not refl)
none-or false not = refl

module _ {E : Type 0} (meaning : E → Meaning) (table : NodeTable E) where
  -- more marks
  pub resting-more : (count : ℕ) (old new region : List ℕ) → AreMoreMarks count old new → AreNodesResting meaning table old region → AreNodesResting meaning table new region
  resting-more count old new region more rests k node there none = rests k node there (unmarked-before old new k more.kept none)

  -- all marks
  pub resting-all : (marks region : List ℕ) → ((k : ℕ) → k < length table.nodes.items → is_marked marks k ≡ true) → ((k : ℕ) (node : Node) → slice_get table.nodes.items k ≡ Some node → k < length table.nodes.items) → AreNodesResting meaning table marks region
  resting-all marks region all inside k node there none = absurd (let both : true ≡ false = sym (all k (inside k node there)) ∙ none in cc)

  kind-engine : (kind : NodeKind) (number : ℕ) (null : Option Mask) (prev : Prev) (bytes : List ℕ) → kind ≡ Engine number null → IsKindAsleep meaning table.engines.items kind prev bytes → (null ≡ None) × ((e : E) → slice_get table.engines.items number ≡ Some e → SleepsThrough (meaning e) prev bytes)
  kind-engine kind number null prev bytes is asleep = subst (λ k. IsKindAsleep meaning table.engines.items k prev bytes) is asleep

  -- all that are listed were looked at
  pub engines-unwoken : (wakes : WakeTable) (literals : ℕ) (marks : List ℕ) (prev : Prev) (bytes : List ℕ) → AreWakesSound table.nodes.items wakes literals →
      ((k : ℕ) (node : Node) → IsListed wakes.first_engines.items k → slice_get table.nodes.items k ≡ Some node → is_marked marks k ≡ false → IsKindAsleep meaning table.engines.items node.kind prev bytes) → AreEnginesUnwoken meaning table marks prev bytes
  engines-unwoken wakes literals marks prev bytes sound asleep k number null node there kind_is no_parent none =
      kind-engine node.kind number null prev bytes kind_is (asleep k node (sound.entered k number null node there kind_is no_parent) there none)

  -- no row of a node that has no empty span fits anywhere
  pub row-asleep : (wakes : WakeTable) (place k : ℕ) (node : Node) (prev : Prev) (bytes places : List ℕ) → AreRowsSound meaning table wakes → EachIndex bytes (λ i. slice_index bytes i < 256) → slice_get wakes.first_engines.items place ≡ Some k → slice_get table.nodes.items k ≡ Some node →
      AreStartsBy wakes place prev bytes places → ((p : ℕ) → p < length bytes → has_word_bit places p ≡ false) →
      (kind : NodeKind) → node.kind ≡ kind → is_never_empty kind ≡ true → IsKindAsleep meaning table.engines.items kind prev bytes
  row-asleep wakes place k node prev bytes places sound small at there starts none (Engine number None) is never = (
    refl,
    λ e at_e.
        let own = sound.are place k number None node e at there is at_e in
        λ region idle. sleeps-passes (meaning e) region prev bytes (own.tell.wakes region bytes prev idle.starts small (λ d one at_one p low fits.
        let (i, row, from, to, at_row, covers) = own.each d one at_one in
        true-false (has_word_bit places p) (starts i row covers.cut p from to at_row covers.numbered low (covers.covers prev bytes p fits)) (none p low))),
  )
  row-asleep wakes place k node prev bytes places sound small at there starts none (Engine number (Some mask)) is never = absurd (cc)
  row-asleep wakes place k node prev bytes places sound small at there starts none (Literal number len) is never = absurd (cc)
  row-asleep wakes place k node prev bytes places sound small at there starts none (FirstLiteral number len) is never = absurd (cc)
  row-asleep wakes place k node prev bytes places sound small at there starts none (LookBack pair) is never = absurd (cc)

  module _ (wakes : WakeTable) (literals : ℕ) (sound : AreWakesSound table.nodes.items wakes literals) (hit : ℕ → Bool) (hits : List ChunkHits) (marks : List ℕ) (prev : Prev) (bytes : List ℕ)
      (woken : (number k : ℕ) → hit number ≡ true → IsAmongChildren wakes.literal_starts.items wakes.literal_nodes.items number k → is_marked marks k ≡ true)
      (nowhere : (number : ℕ) (own : ChunkHits) → hit number ≡ false → slice_get hits number ≡ Some own → (i : ℕ) → i ≤ length bytes → is_hit_at own i ≡ false) (engines : AreEnginesUnwoken meaning table marks prev bytes) where
    no-hit : (k number : ℕ) (node : Node) → slice_get table.nodes.items k ≡ Some node → waking_literal node.kind ≡ Some number → is_marked marks k ≡ false → hit number ≡ false
    no-hit k number node there literal none = none-or (hit number) (λ set. let both : true ≡ false = sym (woken number k set (sound.woken k number node there literal)) ∙ none in absurd (cc))

    by-kind : (k : ℕ) (node : Node) (kind : NodeKind) → slice_get table.nodes.items k ≡ Some node → node.kind ≡ kind → is_marked marks k ≡ false → IsUnwokenIn meaning table.engines.items kind node.parent hits prev bytes
    by-kind k node (Engine number null) there is none = λ no_parent. engines k number null node there is no_parent none
    by-kind k node (Literal number len) there is none = λ no_parent. sound.behind k number len node there is no_parent
    by-kind k node (FirstLiteral number len) there is none = λ own at i low. nowhere number own (no-hit k number node there (ap waking_literal is) none) at i low
    by-kind k node (LookBack pair) there is none = λ own at i low. nowhere pair.literal own (no-hit k pair.literal node there (ap waking_literal is) none) at i low

    -- what the literals that end and the engines that a byte wakes leave unmarked
    pub nodes-unwoken : AreNodesUnwoken meaning table marks hits prev bytes
    nodes-unwoken k node there none = by-kind k node node.kind there refl none

-- the nodes of a list that were looked at
pub record AreLookedAt {E : Type 0} (meaning : E → Meaning) (table : NodeTable E) (numbers : List ℕ) (prev : Prev) (bytes first marks : List ℕ) (n : ℕ) : Type 0 where
  pub more : AreMoreMarks (length table.nodes.items) first marks
  pub asleep : (i : ℕ) (node : Node) → i < n → i < length numbers → slice_get table.nodes.items (slice_index numbers i) ≡ Some node → is_marked marks (slice_index numbers i) ≡ false → IsKindAsleep meaning table.engines.items node.kind prev bytes

module _ {E : Type 0} (meaning : E → Meaning) (table : NodeTable E) (numbers : List ℕ) (prev : Prev) (bytes first : List ℕ) where
  pub looked-none : ((k : ℕ) → is_marked first k ≡ true → k < length table.nodes.items) → AreLookedAt meaning table numbers prev bytes first first 0
  looked-none below = record {
    more = record { room = refl; kept = λ k on. on; below = below };
    asleep = λ i node low. absurd (omega arith);
  }

  -- one that stays asleep, and one that is marked
  module _ (marks new : List ℕ) (n m : ℕ) (next : m ≡ n + 1) (more : AreMoreMarks (length table.nodes.items) marks new) (own : (node : Node) → slice_get table.nodes.items (slice_index numbers n) ≡ Some node → is_marked new (slice_index numbers n) ≡ false → IsKindAsleep meaning table.engines.items node.kind prev bytes) (are : AreLookedAt meaning table numbers prev bytes first marks n) where
    pub looked-more : AreLookedAt meaning table numbers prev bytes first new m
    looked-more = record {
      more = record { room = more.room ∙ are.more.room; kept = λ k on. more.kept k (are.more.kept k on); below = more.below };
      asleep = λ i node low inside there none. elim (cases_eq i n) [
        | inl same ↦ own node (subst (λ j. slice_get table.nodes.items (slice_index numbers j) ≡ Some node) same there) (subst (λ j. is_marked new (slice_index numbers j) ≡ false) same none)
        | inr apart ↦ are.asleep i node (omega (arith, low, next, apart)) inside there (unmarked-before marks new (slice_index numbers i) more.kept none)
      ];
    }

  pub looked-all : (marks : List ℕ) (n : ℕ) → length numbers ≤ n → AreLookedAt meaning table numbers prev bytes first marks n → (k : ℕ) (node : Node) → IsListed numbers k → slice_get table.nodes.items k ≡ Some node → is_marked marks k ≡ false → IsKindAsleep meaning table.engines.items node.kind prev bytes
  looked-all marks n all are k node listed there none =
      are.asleep listed.place node (omega (arith, listed.within, all)) listed.within (subst (λ j. slice_get table.nodes.items j ≡ Some node) (sym listed.is) there) (subst (λ j. is_marked marks j ≡ false) (sym listed.is) none)
