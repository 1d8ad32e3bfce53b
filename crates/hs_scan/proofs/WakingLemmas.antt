-- Nodes that are marked before a chunk, and those that stay so behind it.
use Rattle.std.proofs.Common.{◌≡◌, ℕ, ◌+◌, ◌<◌, ◌≤◌, true, false, List, length, Some, slice_get, refl, sym, ap, subst, ◌∙◌, inl, inr, arith}
use Rattle.std.proofs.lemmas.Bool.{cases_eq, cases_lt}
use Rattle.std.proofs.lemmas.Option.{get_or_from_slice_get}
use Rattle.hs_engine.specs.Engines.{Meaning}
use Rattle.hs_literals.specs.HitTables.{AreMarked, HitTable, has_hit}
use Rattle.hs_base.specs.declared.context.Prev.{Prev}
use Rattle.hs_nodes.specs.Hits.{is_hit_at}
use Rattle.hs_nodes.specs.Left.{nowhere}
use Rattle.hs_bits.specs.Marks.{is_marked, mark_room}
use Rattle.hs_nodes.specs.Resting.{AreNodesUnwoken, IsSettled}
use Rattle.hs_nodes.specs.Waking.{AreEnginesUnwoken, AreWakesSound}
use Rattle.hs_nodes.specs.Walks.{AreMoreMarks, ChangesMarked, IsAmongChildren, node_ends}
use Rattle.hs_nodes.specs.declared.ends.ChunkEnds.{ChunkEnds}
use Rattle.hs_nodes.specs.declared.graph.Graph.{Graph}
use Rattle.hs_nodes.specs.declared.hits.ChunkHits.{ChunkHits}
use Rattle.hs_nodes.specs.declared.wake_table.WakeTable.{WakeTable}
use Rattle.hs_nodes.proofs.WakeLemmas.{nodes-unwoken}
use Rattle.hs_nodes.proofs.NodeLemmas.{there}
use Rattle.hs_scan.specs.Hits.{HasNowhere, no_hits}
use Rattle.hs_scan.specs.Scratches.{FitsRoom}
use Rattle.hs_scan.proofs.HitLemmas.{no-hit}

-- the nodes of the literals below a number are marked
pub record AreWokenTo (nodes : ℕ) (wakes : WakeTable) (table : HitTable) (first marks : List ℕ) (from : ℕ) : Type 0 where
  pub within : from ≤ table.count
  pub more : AreMoreMarks nodes first marks
  pub woken : (number k : ℕ) → number < from → has_hit table number ≡ true → IsAmongChildren wakes.literal_starts.items wakes.literal_nodes.items number k → is_marked marks k ≡ true

module _ (nodes : ℕ) (wakes : WakeTable) (table : HitTable) (first : List ℕ) where
  pub woken-none : ((k : ℕ) → is_marked first k ≡ true → k < nodes) → AreWokenTo nodes wakes table first first 0
  woken-none below = record {
    within = omega arith;
    more = record { room = refl; kept = λ k on. on; below = below };
    woken = λ number k low. absurd (omega arith);
  }

  -- the literals up to the next one that ends, and that one
  pub woken-more : (marks new : List ℕ) (from number n : ℕ) → n ≡ number + 1 → number < table.count → ((j : ℕ) → from ≤ j → j < number → has_hit table j ≡ false) → AreMoreMarks nodes marks new →
      ((k : ℕ) → IsAmongChildren wakes.literal_starts.items wakes.literal_nodes.items number k → is_marked new k ≡ true) → AreWokenTo nodes wakes table first marks from → AreWokenTo nodes wakes table first new n
  woken-more marks new from number n next below none more own are = record {
    within = omega (arith, next, below);
    more = record { room = more.room ∙ are.more.room; kept = λ k on. more.kept k (are.more.kept k on); below = more.below };
    woken = λ j k low hit among. by-place j k hit among (omega (arith, low, next));
  } where
    before : (j k : ℕ) → has_hit table j ≡ true → IsAmongChildren wakes.literal_starts.items wakes.literal_nodes.items j k → j < number → is_marked new k ≡ true
    before j k hit among low = elim (cases_lt j from) [
      | inl inner ↦ more.kept k (are.woken j k inner hit among)
      | inr past ↦ let both : true ≡ false = sym hit ∙ none j past low in absurd (cc)
    ]

    by-place : (j k : ℕ) → has_hit table j ≡ true → IsAmongChildren wakes.literal_starts.items wakes.literal_nodes.items j k → j ≤ number → is_marked new k ≡ true
    by-place j k hit among low = elim (cases_eq j number) [
      | inl same ↦ own k (subst (λ i. IsAmongChildren wakes.literal_starts.items wakes.literal_nodes.items i k) same among)
      | inr apart ↦ before j k hit among (omega (arith, low, apart))
    ]

  pub woken-all : (marks : List ℕ) (from : ℕ) → AreMarked table → ((j : ℕ) → from ≤ j → j < table.count → has_hit table j ≡ false) → AreWokenTo nodes wakes table first marks from → (number k : ℕ) → has_hit table number ≡ true → IsAmongChildren wakes.literal_starts.items wakes.literal_nodes.items number k → is_marked marks k ≡ true
  woken-all marks from marked none are number k hit among = elim (cases_lt number from) [
    | inl inner ↦ are.woken number k inner hit among
    | inr past ↦ let both : true ≡ false = sym hit ∙ none number past (marked.known number hit) in absurd (cc)
  ]

-- a literal that ends nowhere
pub nowhere-ends : (hits : List ChunkHits) (number : ℕ) (own : ChunkHits) → HasNowhere hits number → slice_get hits number ≡ Some own → (i : ℕ) → is_hit_at own i ≡ false
nowhere-ends hits number own none at i = ap (λ (h : ChunkHits). is_hit_at h i) (sym (get_or_from_slice_get hits number own no_hits at) ∙ none) ∙ no-hit i

module _ {E : Type 0} (meaning : E → Meaning) (graph : Graph E) where
  -- what is left unmarked by the literals that end, and by the engines that a byte wakes
  pub chunk-unwoken : (table : HitTable) (first mid marks : List ℕ) (prev : Prev) (bytes : List ℕ) → AreWakesSound graph.table.nodes.items graph.wakes table.count →
      ((number k : ℕ) → has_hit table number ≡ true → IsAmongChildren graph.wakes.literal_starts.items graph.wakes.literal_nodes.items number k → is_marked mid k ≡ true) → AreMoreMarks (length graph.table.nodes.items) mid marks → AreEnginesUnwoken meaning graph.table marks prev bytes → (hits : List ChunkHits) →
      ((k : ℕ) → has_hit table k ≡ false → HasNowhere hits k) → AreNodesUnwoken meaning graph.table marks hits prev bytes
  chunk-unwoken table first mid marks prev bytes sound woken more engines hits others =
      nodes-unwoken meaning graph.table graph.wakes table.count sound (has_hit table) hits marks prev bytes (λ number k hit among. more.kept k (woken number k hit among)) (λ number own none at i low. nowhere-ends hits number own (others number none) at i) engines

  -- the nodes that a walk passed over are left nowhere
  pub passed-nowhere : (marks region region' : List ℕ) (ends : List ChunkEnds) → ChangesMarked meaning graph.table marks region region' ends → (k : ℕ) → k < length graph.table.nodes.items → is_marked marks k ≡ false → node_ends ends k ≡ nowhere
  passed-nowhere marks region region' ends changes k below none = let (node, at) = there graph.table.nodes.items k below in (changes.unmarked k node at none).0

  -- room for the next chunk
  pub settled-room : (nodes : ℕ) (region first old new : List ℕ) (ends ends' : List ChunkEnds) → length ends' ≡ length ends → length ends ≡ nodes → nodes ≤ mark_room first → AreMoreMarks nodes first old → IsSettled meaning graph.table region old new ends' → FitsRoom nodes ends' new
  settled-room nodes region first old new ends ends' len count room more settled = record {
    count = len ∙ count;
    clear = settled.clear;
    room = omega (arith, room, more.room, settled.room);
    below = λ k on. more.below k (settled.fewer k on);
  }
