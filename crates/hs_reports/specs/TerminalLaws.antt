-- What holds of the ends that terminals give.
use Rattle.std.specs.Prelude.{◌≡◌, ◌⊎◌, ℕ, ◌<◌, ◌≤◌, Bool, true, false, List, length, Some, slice_get}
use Rattle.hs_base.specs.Chains.{Piece}
use Rattle.hs_base.specs.LeavingLaws.{HasSpansOfChains}
use Rattle.hs_base.specs.Lists.{Each, IsMember}
use Rattle.hs_base.specs.Patterns.{Pattern}
use Rattle.hs_base.specs.Settling.{AreRising}
use Rattle.hs_reports.specs.declared.terminal.Terminal.{Terminal}
use Rattle.hs_reports.specs.Chunks.{AreChunkEnds, AreConcerned}
use Rattle.hs_reports.specs.Terminals.{AreTerminals, AreLeftBy, AreEndsOf, ends_by_words}
use Rattle.hs_reports.specs.WordBits.{word_bit}

-- The terminals are those of the patterns, whose identifiers are these, and the words of the nodes of those identifiers
-- that are asked for, by number, tell where the chains are left about each of the bytes behind u, of which there are 64
-- at most.
pub record AreLeftTerminals (pieces : ℕ → List Piece) (ids : List ℕ) (P : List Pattern) (terminals : List Terminal)
    (u bytes : List ℕ) (befores behinds : ℕ → ℕ) (asked : ℕ → Bool) : Type 0 where
  pub rising : AreRising ids
  pub are : AreTerminals pieces ids P terminals
  pub spans : Each HasSpansOfChains P
  pub few : length bytes ≤ 64
  pub left : Each
      (λ t. asked t.identifier ≡ true → AreLeftBy (pieces t.node) u bytes (befores t.node) (behinds t.node)) terminals

-- The ends that the terminals give an identifier that is asked for are where its matches end.
abbrev pub TerminalsEnd : Type 0
TerminalsEnd =
    (pieces : ℕ → List Piece) (ids : List ℕ) (P : List Pattern) (terminals : List Terminal) (u bytes : List ℕ)
    (befores behinds : ℕ → ℕ) (asked : ℕ → Bool) (p id before behind : ℕ) →
    AreLeftTerminals pieces ids P terminals u bytes befores behinds asked →
    asked p ≡ true →
    slice_get ids p ≡ Some id →
    AreEndsOf terminals befores behinds (length u) p before behind →
    AreChunkEnds P u bytes id (ends_by_words before behind)

-- Identifiers are the concerned ones if each other has no end by its words.
abbrev pub NotedAreConcerned : Type 0
NotedAreConcerned =
    (pieces : ℕ → List Piece) (ids : List ℕ) (P : List Pattern) (terminals : List Terminal) (u bytes : List ℕ)
    (befores behinds before behind : ℕ → ℕ) (noted : List ℕ) →
    AreLeftTerminals pieces ids P terminals u bytes befores behinds (λ p. true) →
    ((p id : ℕ) → slice_get ids p ≡ Some id → AreEndsOf terminals befores behinds (length u) p (before p) (behind p)) →
    ((p id : ℕ) → slice_get ids p ≡ Some id → IsMember id noted ⊎ ((before p ≡ 0) × (behind p ≡ 0))) →
    AreRising noted →
    AreConcerned P u bytes noted

-- No end of an identifier that is asked for is behind the bytes.
abbrev pub EndsAreWithin : Type 0
EndsAreWithin =
    (pieces : ℕ → List Piece) (ids : List ℕ) (P : List Pattern) (terminals : List Terminal) (u bytes : List ℕ)
    (befores behinds : ℕ → ℕ) (asked : ℕ → Bool) (p before behind : ℕ) →
    AreLeftTerminals pieces ids P terminals u bytes befores behinds asked →
    asked p ≡ true →
    AreEndsOf terminals befores behinds (length u) p before behind →
    (i : ℕ) →
    length bytes ≤ i →
    i < 64 →
    (word_bit before i ≡ false) × (word_bit behind i ≡ false)
