-- Ends are gathered node by node.
use Rattle.std.proofs.Common.{◌≡◌, ℕ, zero, suc, ◌+◌, ◌<◌, ◌≤◌, ◌||◌, Bool, true, false, List, [], ◌∷◌, length, Some, bit_or, slice_get, slice_set, refl, sym, ap, subst, ◌∙◌, inl, inr, arith}
use Rattle.std.specs.Prelude.{slice_index, slice_index_or}
use Rattle.std.proofs.lemmas.Bool.{cases_eq, cases_lt}
use Rattle.std.proofs.lemmas.List.{get_or-set_other, get_or-set_same, get_or_past}
use Rattle.std.proofs.lemmas.Nat.{le_or_l, le_or_r}
use Rattle.std.proofs.lemmas.Option.{get_or_from_slice_get, same_Some}
use Rattle.hs_engine.specs.Engines.{Meaning}
use Rattle.hs_nodes.specs.Left.{nowhere}
use Rattle.hs_nodes.specs.Walks.{node_ends}
use Rattle.hs_nodes.specs.declared.ends.ChunkEnds.{ChunkEnds}
use Rattle.hs_nodes.proofs.RunLemmas.{nowhere-none}
use Rattle.hs_reports.specs.EndTables.{AddsEnds, EndTable, HasNoEnds, is_noted, words_of}
use Rattle.hs_reports.specs.WordBits.{word_bit}
use Rattle.hs_reports.specs.Gathering.{AreEndsBelow}
use Rattle.hs_reports.specs.declared.terminal.Terminal.{Terminal}
use Rattle.hs_reports.proofs.GatheringLemmas.{gathering-begins, gathering-goes_on, gathering-passes}
use Rattle.hs_nodes.specs.Graphs.{AreTerminalsSound}
use Rattle.hs_nodes.specs.Gathering.{AddsBusy, AddsTold, AreBusy, GathersNode, IsPassed, IsUntold, left_before, left_behind, ends_or_all, terminals_of}
use Rattle.hs_nodes.specs.declared.graph.Graph.{Graph}

-- the ends of a node by its number

pub ends-at : (ends : List ChunkEnds) (all other : ChunkEnds) (k : ℕ) → k < length ends → slice_index_or ends k all ≡ slice_index_or ends k other
ends-at [] all other k below = absurd (omega arith)
ends-at (x ∷ ends) all other zero below = refl
ends-at (x ∷ ends) all other (suc k) below = ends-at ends all other k (omega arith)

pub ends-past : (ends : List ChunkEnds) (all : ChunkEnds) (k : ℕ) → k ≡ length ends → slice_index_or ends k all ≡ all
ends-past [] all zero same = refl
ends-past [] all (suc k) same = absurd (omega arith)
ends-past (x ∷ ends) all zero same = absurd (omega arith)
ends-past (x ∷ ends) all (suc k) same = ends-past ends all k (omega arith)

-- no terminal adds no end
or-none : (b : Bool) → b ≡ (b || false)
or-none true = refl
or-none false = refl

adds-none : (table : EndTable) (at before behind : ℕ) → AddsEnds table table [] at before behind
adds-none table at before behind = record {
  count = refl;
  before_is = λ p i low. or-none (word_bit (words_of table p).before i);
  behind_is = λ p i low. or-none (word_bit (words_of table p).behind i);
  noted = λ p is. is;
}

-- the ends of the nodes before one are gathered, and no noted identifier is forgotten
pub record IsGatheredTo {E : Type 0} (graph : Graph E) (ends : List ChunkEnds) (all : ChunkEnds) (block at from : ℕ) (first table : EndTable) : Type 0 where
  pub within : from ≤ length graph.table.nodes.items
  pub counted : length table.words ≡ length graph.identifiers.items
  pub noted : (p : ℕ) → is_noted first p ≡ true → is_noted table p ≡ true
  pub gathered : AreEndsBelow graph.terminals.items (left_before ends all block) (left_behind ends all block) at from table

module _ {E : Type 0} (meaning : E → Meaning) (graph : Graph E) (sound : AreTerminalsSound graph) where
  pub node-gathers : (node at before behind : ℕ) (own : List Terminal) (old new : EndTable) → node < length graph.table.nodes.items + 1 → own ≡ terminals_of graph node → AddsEnds old new own at before behind →
      GathersNode graph node at before behind old new
  node-gathers node at before behind own old new there is adds befores behinds before_is behind_is below =
      gathering-goes_on graph.terminals.items (terminals_of graph node) befores behinds at node old new below (sound.of_node node there)
      (subst (λ w. AddsEnds old new (terminals_of graph node) at (befores node) w) (sym behind_is)
      (subst (λ w. AddsEnds old new (terminals_of graph node) at w behind) (sym before_is) (subst (λ ts. AddsEnds old new ts at before behind) is adds)))

  -- one that is left nowhere
  pub node-passed : (node at before behind : ℕ) (table : EndTable) → before ≡ 0 → behind ≡ 0 → GathersNode graph node at before behind table table
  node-passed node at before behind table none none' befores behinds before_is behind_is below =
      gathering-passes graph.terminals.items befores behinds at node (node + 1) table (omega arith)
      (λ k low high. let same : k ≡ node = omega arith in (ap befores same ∙ before_is ∙ none, ap behinds same ∙ behind_is ∙ none')) below

module _ {E : Type 0} (graph : Graph E) (ends : List ChunkEnds) (all : ChunkEnds) (block : ℕ) (few : block < 8) (count : length ends ≡ length graph.table.nodes.items) where
  pub gathered-none : (at : ℕ) (table : EndTable) → length table.words ≡ length graph.identifiers.items → HasNoEnds table → IsGatheredTo graph ends all block at 0 table table
  gathered-none at table counted none = record {
    within = omega arith;
    counted = counted;
    noted = λ p is. is;
    gathered = gathering-begins graph.terminals.items (left_before ends all block) (left_behind ends all block) at table none;
  }

  resting : (k : ℕ) → k < length graph.table.nodes.items → node_ends ends k ≡ nowhere → (left_before ends all block k ≡ 0) × (left_behind ends all block k ≡ 0)
  resting k below none =
      let is : ends_or_all ends all k ≡ nowhere = ends-at ends all nowhere k (omega (arith, count)) ∙ none in
      (ap (λ e. slice_index e.before block) is ∙ nowhere-none.before block (omega arith), ap (λ e. slice_index e.behind block) is ∙ nowhere-none.behind block (omega arith))

  -- nodes of which nothing is told in the block are passed over
  pub gathered-untold : AreTerminalsSound graph → (at from n : ℕ) (first table : EndTable) → from + n ≤ length graph.table.nodes.items → ((k : ℕ) → from ≤ k → k < from + n → IsUntold graph k (node_ends ends k) block) → IsGatheredTo graph ends all block at from first table →
      IsGatheredTo graph ends all block at (from + n) first table
  gathered-untold sound at from zero first table inside none is = subst (λ m. IsGatheredTo graph ends all block at m first table) (omega arith) is
  gathered-untold sound at from (suc n) first table inside none is =
      subst (λ m. IsGatheredTo graph ends all block at m first table) (omega arith)
      (gathered-untold sound at (from + 1) n first table (omega (arith, inside)) (λ k low high. none k (omega (arith, low)) (omega (arith, high))) (one (none from (omega arith) (omega arith)))) where
        one : IsUntold graph from (node_ends ends from) block → IsGatheredTo graph ends all block at (from + 1) first table
        one (inl own) = record {
          within = omega (arith, inside);
          counted = is.counted;
          noted = is.noted;
          gathered =
              gathering-goes_on graph.terminals.items (terminals_of graph from) (left_before ends all block) (left_behind ends all block) at from table table is.gathered (sound.of_node from (omega (arith, inside)))
              (subst (λ ts. AddsEnds table table ts at (left_before ends all block from) (left_behind ends all block from)) (sym own) (adds-none table at (left_before ends all block from) (left_behind ends all block from)));
        }
        one (inr passed) = record {
          within = omega (arith, inside);
          counted = is.counted;
          noted = is.noted;
          gathered =
              gathering-passes graph.terminals.items (left_before ends all block) (left_behind ends all block) at from (from + 1) table (omega arith)
              (λ k low high.
              let here : k ≡ from = omega arith in
              let same : ends_or_all ends all k ≡ node_ends ends from = ends-at ends all nowhere k (omega (arith, count, here, inside)) ∙ ap (λ n. node_ends ends n) here in
              (ap (λ e. slice_index e.before block) same ∙ passed.before_is, ap (λ e. slice_index e.behind block) same ∙ passed.behind_is)) is.gathered;
        }

  pub gathered-passed : (at from to : ℕ) (first table : EndTable) → from ≤ to → to ≤ length graph.table.nodes.items → ((k : ℕ) → from ≤ k → k < to → node_ends ends k ≡ nowhere) → IsGatheredTo graph ends all block at from first table → IsGatheredTo graph ends all block at to first table
  gathered-passed at from to first table order inside none is = record {
    within = inside;
    counted = is.counted;
    noted = is.noted;
    gathered =
        gathering-passes graph.terminals.items (left_before ends all block) (left_behind ends all block) at from to table order
        (λ k low high. resting k (omega (arith, high, inside)) (none k low high)) is.gathered;
  }

  -- all of them are, or none is left anywhere
  pub gathered-or : (at k : ℕ) (is_any : Bool) (first table : EndTable) → k ≤ length graph.table.nodes.items → (is_any ≡ true → k ≡ length graph.table.nodes.items) → (is_any ≡ false → (j : ℕ) → node_ends ends j ≡ nowhere) → IsGatheredTo graph ends all block at k first table →
      IsGatheredTo graph ends all block at (length graph.table.nodes.items) first table
  gathered-or at k true first table within whole none is = subst (λ n. IsGatheredTo graph ends all block at n first table) (whole refl) is
  gathered-or at k false first table within whole none is = gathered-passed at k (length graph.table.nodes.items) first table within (omega arith) (λ j low high. none refl j) is

  pub gathered-more : (at k : ℕ) (own : ChunkEnds) (first table next : EndTable) → k < length graph.table.nodes.items → slice_get ends k ≡ Some own → IsGatheredTo graph ends all block at k first table → length next.words ≡ length table.words →
      ((p : ℕ) → is_noted table p ≡ true → is_noted next p ≡ true) → GathersNode graph k at (slice_index own.before block) (slice_index own.behind block) table next → IsGatheredTo graph ends all block at (k + 1) first next
  gathered-more at k own first table next inside there is len noted goes =
      let same : ends_or_all ends all k ≡ own = at-get ends all k own there in
      record {
        within = omega arith;
        counted = len ∙ is.counted;
        noted = λ p set. noted p (is.noted p set);
        gathered = goes (left_before ends all block) (left_behind ends all block) (ap (λ e. slice_index e.before block) same) (ap (λ e. slice_index e.behind block) same) is.gathered;
      }
    where
      at-get : (ends : List ChunkEnds) (all : ChunkEnds) (k : ℕ) (own : ChunkEnds) → slice_get ends k ≡ Some own → slice_index_or ends k all ≡ own
      at-get [] all k own there = absurd (cc)
      at-get (x ∷ ends) all zero own there = same_Some x own there
      at-get (x ∷ ends) all (suc k) own there = at-get ends all k own there

  pub gathered-all : (at n : ℕ) (first table next : EndTable) → n ≡ length graph.table.nodes.items → IsGatheredTo graph ends all block at (length graph.table.nodes.items) first table → GathersNode graph n at (slice_index all.before block) (slice_index all.behind block) table next →
      AreEndsBelow graph.terminals.items (left_before ends all block) (left_behind ends all block) at (length graph.table.nodes.items + 1) next
  gathered-all at n first table next last is goes =
      let same : ends_or_all ends all n ≡ all = ends-past ends all n (omega (arith, count)) in
      subst (λ m. AreEndsBelow graph.terminals.items (left_before ends all block) (left_behind ends all block) at (m + 1) next) last
      (goes (left_before ends all block) (left_behind ends all block) (ap (λ e. slice_index e.before block) same) (ap (λ e. slice_index e.behind block) same)
      (subst (λ m. AreEndsBelow graph.terminals.items (left_before ends all block) (left_behind ends all block) at m table) (sym last) is.gathered))

-- Which blocks are busy.

passed-nowhere : (j : ℕ) → IsPassed nowhere j
passed-nowhere j = record { before_is = nowhere-none.before j (omega arith); behind_is = nowhere-none.behind j (omega arith) }

pub busy-none : (own : ChunkEnds) (words : List ℕ) → AddsBusy own 0 words words
busy-none own words = record { below = λ j low. absurd (omega arith); above = λ j high. refl }

-- words that are 0 together
none-of : (a b c : ℕ) → bit_or a (bit_or b c) ≡ 0 → (a ≡ 0) × (b ≡ 0) × (c ≡ 0)
none-of a b c none =
    let first = le_or_l a (bit_or b c) in
    let second = le_or_r a (bit_or b c) in
    let left = le_or_l b c in
    let right = le_or_r b c in
    (omega (arith, none, first), omega (arith, none, second, left), omega (arith, none, second, right))

-- the word of one more block
pub busy-more : (own : ChunkEnds) (old mid : List ℕ) (j before behind word : ℕ) → j < length mid → before ≡ slice_index own.before j → behind ≡ slice_index own.behind j → word ≡ bit_or (slice_index mid j) (bit_or before behind) → AddsBusy own j old mid →
    AddsBusy own (j + 1) old (slice_set mid j word)
busy-more own old mid j before behind word there before_is behind_is word_is adds = record {
  below = λ i low none. elim (cases_eq i j) [
    | inl same ↦ subst (λ n. (slice_index old n ≡ 0) × IsPassed own n) (sym same) (here (sym (get_or-set_same mid j word 0 there) ∙ (ap (λ n. slice_index (slice_set mid j word) n) (sym same) ∙ none)))
    | inr apart ↦ adds.below i (omega (arith, low, apart)) (sym (get_or-set_other mid j i word 0 apart) ∙ none)
  ];
  above = λ i high. get_or-set_other mid j i word 0 (λ same. absurd (omega arith)) ∙ adds.above i (omega (arith, high));
} where
  here : word ≡ 0 → (slice_index old j ≡ 0) × IsPassed own j
  here none =
      let all = none-of (slice_index mid j) before behind (sym word_is ∙ none) in
      (sym (adds.above j (omega arith)) ∙ all.0, record { before_is = sym before_is ∙ all.1; behind_is = sym behind_is ∙ all.2 })

-- In a block whose word is 0 no node before that number that has a terminal is left anywhere.
pub record AreBusyTo {E : Type 0} (graph : Graph E) (ends : List ChunkEnds) (words : List ℕ) (from : ℕ) : Type 0 where
  pub within : from ≤ length ends
  pub untold : (block k : ℕ) → block < 8 → k < from → slice_index words block ≡ 0 → IsUntold graph k (node_ends ends k) block

module _ {E : Type 0} (graph : Graph E) where
  pub busy-begins : (ends : List ChunkEnds) (words : List ℕ) → AreBusyTo graph ends words 0
  busy-begins ends words = record { within = omega arith; untold = λ block k few low. absurd (omega arith) }

  pub told-none : (node : ℕ) (own : ChunkEnds) (words : List ℕ) → terminals_of graph node ≡ [] → AddsTold graph node own words words
  told-none node own words none j few is = (is, inl none)

  pub told-added : (node : ℕ) (own : ChunkEnds) (old new : List ℕ) → AddsBusy own 8 old new → AddsTold graph node own old new
  told-added node own old new adds j few is = let both = adds.below j few is in (both.0, inr both.1)

  -- up to the next one that is marked, and that one
  pub busy-next : (ends : List ChunkEnds) (own : ChunkEnds) (mid new : List ℕ) (from k : ℕ) → k < length ends → slice_get ends k ≡ Some own → ((j : ℕ) → from ≤ j → j < k → node_ends ends j ≡ nowhere) → AddsTold graph k own mid new → AreBusyTo graph ends mid from →
      AreBusyTo graph ends new (k + 1)
  busy-next ends own mid new from k there is rest adds are = record {
    within = omega arith;
    untold = λ block j few low none.
        let both = adds block few none in
        elim (cases_lt j from) [
          | inl inner ↦ are.untold block j few inner both.0
          | inr past ↦ elim (cases_eq j k) [
            | inl same ↦ subst (λ n. IsUntold graph n (node_ends ends n) block) (sym same) (subst (λ e. IsUntold graph k e block) (sym (get_or_from_slice_get ends k own nowhere is)) both.1)
            | inr apart ↦ inr (subst (λ e. IsPassed e block) (sym (rest j past (omega (arith, low, apart)))) (passed-nowhere block))
          ]
        ];
  }

  pub busy-all : (ends : List ChunkEnds) (words : List ℕ) (from : ℕ) → ((j : ℕ) → from ≤ j → j < length ends → node_ends ends j ≡ nowhere) → AreBusyTo graph ends words from → AreBusy graph ends words
  busy-all ends words from rest are block k few none = elim (cases_lt k from) [
    | inl inner ↦ are.untold block k few inner none
    | inr past ↦ elim (cases_lt k (length ends)) [
      | inl inside ↦ inr (subst (λ e. IsPassed e block) (sym (rest k past inside)) (passed-nowhere block))
      | inr beyond ↦ inr (subst (λ e. IsPassed e block) (sym (get_or_past ends k nowhere beyond)) (passed-nowhere block))
    ]
  ]
