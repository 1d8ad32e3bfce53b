-- Bits in a row of bytes and in a row of words of 64 bits, as contracts see them.
use Rattle.std.specs.Prelude.{◌≡◌, ℕ, ◌+◌, ◌/◌, ◌%◌, Bool, ◌==◌, List, slice_index, EachIndex}
use Rattle.std.specs.Int.{bit_at}

-- whether the bit of that number is set: bit `k % 8` of byte `k / 8`; beyond the bytes none is
unfoldable pub has_bit : List ℕ → ℕ → Bool
has_bit bytes k = bit_at (slice_index bytes (k / 8)) (k % 8) == 1

-- no bit of the numbers is set
abbrev pub AreZero : List ℕ → Type 0
AreZero numbers = EachIndex numbers (λ k. slice_index numbers k ≡ 0)

-- whether the bit of that number is set: bit `k % 64` of word `k / 64`; beyond the words none is
unfoldable pub has_word_bit : List ℕ → ℕ → Bool
has_word_bit words k = bit_at (slice_index words (k / 64)) (k % 64) == 1

-- the words that hold a bit for each of so many
abbrev pub word_count : ℕ → ℕ
word_count count = (count + 63) / 64
