-- The ends of all identifiers, gathered node by node.
use Rattle.std.specs.Prelude.{◌≡◌, ℕ, ◌+◌, ◌<◌, ◌≤◌, Bool, ◌==◌, ◌&&◌, nat_lt, List}
use Rattle.std.specs.List.{list_any}
use Rattle.hs_base.specs.Lists.{Each}
use Rattle.hs_reports.specs.declared.terminal.Terminal.{Terminal}
use Rattle.hs_reports.specs.EndTables.{EndTable, words_of, HasNoEnds, AddsEnds}
use Rattle.hs_reports.specs.Terminals.{is_end_at, AreEndsOf}
use Rattle.hs_reports.specs.WordBits.{word_bit}

-- these are the terminals of that node, in whatever order
abbrev pub AreOfNode : List Terminal → (node : ℕ) → List Terminal → Type 0
AreOfNode terminals node own =
    (test : Terminal → Bool) → list_any test own ≡ list_any (λ t. (t.node == node) && test t) terminals

-- the table has the ends that the terminals of the nodes before that number give, by the words of their nodes
pub record AreEndsBelow (terminals : List Terminal) (befores behinds : ℕ → ℕ) (at node : ℕ) (table : EndTable) :
    Type 0 where
  pub before_is : (p i : ℕ) → i < 64 → word_bit (words_of table p).before i
      ≡ list_any (λ t. nat_lt t.node node && is_end_at befores p (at + i) i t) terminals
  pub behind_is : (p i : ℕ) → i < 64 → word_bit (words_of table p).behind i
      ≡ list_any (λ t. nat_lt t.node node && is_end_at behinds p (at + i + 1) i t) terminals

-- A table without an end has the ends of no node.
abbrev pub GatheringBegins : Type 0
GatheringBegins =
    (terminals : List Terminal) (befores behinds : ℕ → ℕ) (at : ℕ) (table : EndTable) →
    HasNoEnds table →
    AreEndsBelow terminals befores behinds at 0 table

-- Nodes that are left nowhere are passed over.
abbrev pub GatheringPasses : Type 0
GatheringPasses =
    (terminals : List Terminal) (befores behinds : ℕ → ℕ) (at from to : ℕ) (table : EndTable) →
    from ≤ to →
    ((k : ℕ) → from ≤ k → k < to → (befores k ≡ 0) × (behinds k ≡ 0)) →
    AreEndsBelow terminals befores behinds at from table →
    AreEndsBelow terminals befores behinds at to table

-- The ends of the terminals of one node more are added.
abbrev pub GatheringGoesOn : Type 0
GatheringGoesOn =
    (terminals own : List Terminal) (befores behinds : ℕ → ℕ) (at node : ℕ) (old new : EndTable) →
    AreEndsBelow terminals befores behinds at node old →
    AreOfNode terminals node own →
    AddsEnds old new own at (befores node) (behinds node) →
    AreEndsBelow terminals befores behinds at (node + 1) new

-- Behind the last node the table has the ends of each identifier.
abbrev pub GatheringEnds : Type 0
GatheringEnds =
    (terminals : List Terminal) (befores behinds : ℕ → ℕ) (at node : ℕ) (table : EndTable) →
    Each (λ t. t.node < node) terminals →
    AreEndsBelow terminals befores behinds at node table →
    (p : ℕ) → AreEndsOf terminals befores behinds at p (words_of table p).before (words_of table p).behind
