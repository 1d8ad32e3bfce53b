-- Bits of words: the places of a block of up to 64 bytes.
use Rattle.std.specs.Prelude.{ℕ, zero, suc, Bool, ◌==◌, List, slice_index}
use Rattle.std.specs.Int.{bit_at}

-- whether the bit of that number is set
unfoldable pub word_bit : ℕ → ℕ → Bool
word_bit word i = bit_at word i == 1

-- the same of the word of number k
abbrev pub row_bit : List ℕ → (k i : ℕ) → Bool
row_bit words k i = word_bit (slice_index words k) i

-- the bit before that place, and before the first place `first`
abbrev pub bit_before : (first : Bool) → (word i : ℕ) → Bool
bit_before first word zero = first
bit_before first word (suc i) = word_bit word i
