-- From where chains of pieces are left to where matches of an identifier end.
use Rattle.std.specs.Prelude.{◌≡◌, ◌↔◌, ℕ, ◌+◌, ◌<◌, ◌≤◌, Bool, true, false, ◌==◌, ◌&&◌, nat_le, List, ◌++◌}
use Rattle.std.specs.Prelude.{length, take, Some, slice_get, slice_index}
use Rattle.std.specs.List.{list_any}
use Rattle.hs_base.specs.declared.context.Next.TheVariants as after
use Rattle.hs_base.specs.Chains.{Piece, chains_of}
use Rattle.hs_base.specs.Contexts.{class_of}
use Rattle.hs_base.specs.Leaving.{LeavesAt}
use Rattle.hs_base.specs.Lists.{OneOf, Each}
use Rattle.hs_base.specs.Patterns.{Pattern}
use Rattle.hs_base.specs.Settling.{Ends}
use Rattle.hs_reports.specs.declared.terminal.Terminal.{Terminal}
use Rattle.hs_reports.specs.WordBits.{word_bit}

-- The terminal stands for that chain of the pattern: the node has the pieces of the chain, by number of a node, and the
-- list of identifiers that of the pattern.
pub record IsTerminalOf (pieces : ℕ → List Piece) (ids : List ℕ) (x : Pattern) (t : Terminal) (chain : List Piece) :
    Type 0 where
  pub named : slice_get ids t.identifier ≡ Some x.id
  pub least : t.least ≡ x.least
  pub greatest : t.greatest ≡ x.greatest
  pub ends : pieces t.node ≡ chain

-- Each terminal stands for a chain of a pattern, and each chain of each pattern has one.
pub record AreTerminals (pieces : ℕ → List Piece) (ids : List ℕ) (P : List Pattern) (terminals : List Terminal) :
    Type 0 where
  pub each : Each (λ t. OneOf (λ x. OneOf (IsTerminalOf pieces ids x t) (chains_of x.tree)) P) terminals
  pub all : Each (λ x. Each (λ chain. OneOf (λ t. IsTerminalOf pieces ids x t chain) terminals) (chains_of x.tree)) P

-- The words tell where the pieces are left about each of the bytes behind u: before the byte, which comes next, and
-- behind it, where nothing is known of what comes next.
pub record AreLeftBy (pieces : List Piece) (u bytes : List ℕ) (before behind : ℕ) : Type 0 where
  pub before_is : (i : ℕ) → i < length bytes →
      (word_bit before i ≡ true) ↔ LeavesAt pieces (u ++ take i bytes) (class_of (slice_index bytes i))
  pub behind_is : (i : ℕ) → i < length bytes →
      (word_bit behind i ≡ true) ↔ LeavesAt pieces (u ++ take (i + 1) bytes) after.Unknown
  pub within : (i : ℕ) → length bytes ≤ i → i < 64 → (word_bit before i ≡ false) × (word_bit behind i ≡ false)

-- the offset is within the bounds
abbrev pub is_within_bounds : (least greatest at : ℕ) → Bool
is_within_bounds least greatest at = nat_le least at && nat_le at greatest

-- a match of the identifier of that number ends at the offset, by bit i of the word of the terminal's node
abbrev pub is_end_at : (words : ℕ → ℕ) → (identifier at i : ℕ) → Terminal → Bool
is_end_at words identifier at i t =
    (t.identifier == identifier) && (is_within_bounds t.least t.greatest at && word_bit (words t.node) i)

-- the words have the ends of the identifier of that number about each byte from the offset on, by the words of the
-- terminals' nodes
pub record AreEndsOf (terminals : List Terminal) (befores behinds : ℕ → ℕ) (at identifier before behind : ℕ) :
    Type 0 where
  pub before_is : (i : ℕ) → i < 64 →
      word_bit before i ≡ list_any (is_end_at befores identifier (at + i) i) terminals
  pub behind_is : (i : ℕ) → i < 64 →
      word_bit behind i ≡ list_any (is_end_at behinds identifier (at + i + 1) i) terminals

-- the ends that two words have, by place
abbrev pub ends_by_words : (before behind : ℕ) → ℕ → Ends
ends_by_words before behind i =
    record { before = word_bit before i; before_last = false; behind = word_bit behind i }
