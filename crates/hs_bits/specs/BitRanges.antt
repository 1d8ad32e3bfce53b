-- Bits in a range of places, and in one that goes round.
use Rattle.std.specs.Prelude.{◌≡◌, ℕ, ◌+◌, ◌%◌, ◌<◌, ◌≤◌, true, List}
use Rattle.hs_base.specs.Bits.{has_bit}

-- a bit from `first` to before `end` is set
pub record HasBitIn (bytes : List ℕ) (first end : ℕ) : Type 0 where
  pub bit : ℕ
  pub above : first ≤ bit
  pub below : bit < end
  pub set : has_bit bytes bit ≡ true

-- of so many bits from `first` on one is set, where behind the last of `size` places comes the first again
pub record HasBitRound (bytes : List ℕ) (size first count : ℕ) : Type 0 where
  pub ahead : ℕ
  pub below : ahead < count
  pub set : has_bit bytes ((first + ahead) % size) ≡ true
