-- Bits of one word, and of tables whose rows are words.
use Rattle.std.specs.Prelude.{◌≡◌, ℕ, ◌+◌, ◌-◌, ◌*◌, ◌/◌, ◌%◌, ◌<◌, ◌≤◌, Bool, true, false, ◌&&◌, ◌==◌, nat_lt, nat_le}
use Rattle.std.specs.Prelude.{List, slice_index}
use Rattle.std.specs.Int.{bit_at}

-- the bit k of the word is set
abbrev pub is_set : (word k : ℕ) → Bool
is_set word k = bit_at word k == 1

-- The words begin with a row of so many bits for each byte, one behind the other and none over the end of a word: the
-- position k is one of so many and has a bit in the row of the byte.
abbrev pub reach_bit : List ℕ → (pitch size byte k : ℕ) → Bool
reach_bit words pitch size byte k =
    nat_lt k size && is_set (slice_index words (byte * pitch / 64)) (byte * pitch % 64 + k)

-- from that word on each of so many positions has a word: the position y has a bit in that of x
abbrev pub follow_bit : List ℕ → (start size x y : ℕ) → Bool
follow_bit words start size x y = nat_lt x size && is_set (slice_index words (start + x)) y

-- the bit so many places before is set in both words
abbrev pub is_moved_on : (live row distance k : ℕ) → Bool
is_moved_on live row distance k = nat_le distance k && (is_set live (k - distance) && is_set row (k - distance))

-- the position k follows one that is live
pub record IsOn (follows : ℕ → ℕ → Bool) (live k : ℕ) : Type 0 where
  pub from : ℕ
  pub is_live : is_set live from ≡ true
  pub is_followed : follows from k ≡ true

-- The word has positions that follow live ones, and of these each one that lies at less than that distance behind.
pub record IsNearLed (follows : ℕ → ℕ → Bool) (live distance led : ℕ) : Type 0 where
  pub sound : (k : ℕ) → k < 64 → is_set led k ≡ true → IsOn follows live k
  pub whole : (x k : ℕ) → k < 64 → is_set live x ≡ true → follows x k ≡ true → x ≤ k → k < x + distance →
      is_set led k ≡ true

-- The word has positions that follow live ones, and of these each one but those that follow one that is left.
pub record IsLedBut (follows : ℕ → ℕ → Bool) (live left led : ℕ) : Type 0 where
  pub sound : (k : ℕ) → k < 64 → is_set led k ≡ true → IsOn follows live k
  pub whole : (x k : ℕ) → k < 64 → is_set live x ≡ true → follows x k ≡ true → is_set left x ≡ false →
      is_set led k ≡ true
