-- Which pieces a program can be made of.
use Rattle.std.specs.Prelude.{◌≡◌, ◌≤◌, ◌<◌, ◌^◌, false, true, List, length}
use Rattle.hs_base.specs.Chains.{Piece, lit, nfa, rep, is_long, most_literal_bytes}
use Rattle.hs_base.specs.EndAssertions.{has_embedded_end}
use Rattle.hs_base.specs.Lists.{Each}
use Rattle.hs_base.specs.Trees.{AreBounds}
use Rattle.hs_base.specs.WrittenOut.{IsPlain, write_out, count}

-- A literal has 2 to 32 bytes; an expression has an automaton; a repeat has bounds that are in order, and is a long
-- one.
abbrev pub IsRunnable : Piece → Type 0
IsRunnable (lit xs) = (2 ≤ length xs) × (length xs ≤ most_literal_bytes)
IsRunnable (nfa t) = IsPlain t × (count (write_out t) ≤ 512) × (has_embedded_end t false ≡ false)
IsRunnable (rep set least greatest) = AreBounds least greatest × (is_long least greatest ≡ true)

-- the piece has an engine
abbrev pub IsRun : Piece → Type 0
IsRun (lit xs) = ⊥
IsRun (nfa t) = Unit {0}
IsRun (rep set least greatest) = Unit {0}

-- A chain of such pieces, whose numbers are small.
pub record IsRunnableChain (chain : List Piece) : Type 0 where
  pub few : length chain < 2 ^ 32
  pub pieces : Each IsRunnable chain

-- the chains of an entry
pub record AreRunnable (chains : List (List Piece)) : Type 0 where
  pub few : length chains < 2 ^ 32
  pub each : Each IsRunnableChain chains

-- Chains, and the pieces of each, are few enough to be numbered.
pub record AreFew (chains : List (List Piece)) : Type 0 where
  pub count : length chains < 2 ^ 32
  pub each : Each (λ chain. length chain < 2 ^ 32) chains
