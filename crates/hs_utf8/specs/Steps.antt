-- What the steps towards a lowered tree add to its parts.
use Rattle.std.specs.Prelude.{◌≡◌, ℕ, ◌+◌, ◌≤◌, Bool, false, List, ◌++◌, drop}
use Rattle.hs_base.specs.Trees.{Tree}
use Rattle.hs_utf8.specs.Members.{has_encoding, is_member}
use Rattle.hs_utf8.specs.Runs.{AreRuns}
use Rattle.hs_utf8.specs.Lowered.{ascii_end, AreAscii}

-- the code points from the first to the last are members, surrogates left out, and the next one is none
pub record IsStretch (member : ℕ → Bool) (first last : ℕ) : Type 0 where
  pub inside : (c : ℕ) → first ≤ c → c ≤ last → member c ≡ has_encoding c
  pub behind : member (last + 1) ≡ false

-- the runs from one code point to another were added: with those from the other on behind them they are all from the
-- one on
pub record AddsRuns (member : ℕ → Bool) (from to : ℕ) (old new : List Tree) : Type 0 where
  pub added : List Tree
  pub is : new ≡ old ++ added
  pub leads : (rest : List Tree) → AreRuns member to rest → AreRuns member from (added ++ rest)

-- the runs of so many of the ranges were added
pub record AddsRanges (ranges : List (ℕ × ℕ)) (done : ℕ) (old new : List Tree) : Type 0 where
  pub added : List Tree
  pub is : new ≡ old ++ added
  pub leads : (rest : List Tree) → AreRuns (is_member (drop done ranges)) ascii_end rest →
      AreRuns (is_member ranges) ascii_end (added ++ rest)

-- the runs of the ranges were added
pub record AddsAllRuns (ranges : List (ℕ × ℕ)) (old new : List Tree) : Type 0 where
  pub runs : List Tree
  pub is : new ≡ old ++ runs
  pub are_runs : AreRuns (is_member ranges) ascii_end runs

-- the class of the members of ASCII was added, if there are any
pub record AddsAscii (ranges : List (ℕ × ℕ)) (old new : List Tree) : Type 0 where
  pub ascii : List Tree
  pub is : new ≡ old ++ ascii
  pub are_ascii : AreAscii ranges ascii
