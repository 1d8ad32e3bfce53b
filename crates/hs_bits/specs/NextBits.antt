-- The next bit of two rows.
use Rattle.std.specs.Prelude.{◌≡◌, ℕ, ◌<◌, ◌≤◌, Bool, true, ◌||◌, List, Option, MatchOption}
use Rattle.std.specs.Slice.Scan.{HoldsNowhere}
use Rattle.hs_base.specs.Bits.{has_word_bit}

-- the bit is set in either row
abbrev pub is_in_either : (words row : List ℕ) → ℕ → Bool
is_in_either words row k = has_word_bit words k || has_word_bit row k

-- of the bits from one on and before another, that is the least of which the test holds
pub record IsNextBit (test : ℕ → Bool) (from end k : ℕ) : Type 0 where
  pub low : from ≤ k
  pub high : k < end
  pub is : test k ≡ true
  pub least : HoldsNowhere test from k

-- the least bit from one on and before another of which the test holds, or None where there is none
abbrev pub IsNextBitIn : (test : ℕ → Bool) → (from end : ℕ) → Option ℕ → Type 0
IsNextBitIn test from end next = MatchOption next (HoldsNowhere test from end) (IsNextBit test from end)
