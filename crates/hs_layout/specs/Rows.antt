-- Rows of bits of a region, read into rows of words and written as these have them.
use Rattle.std.specs.Prelude.{◌≡◌, ◌⊎◌, ℕ, ◌+◌, ◌*◌, ◌<◌, ◌≤◌, List, length, slice_index}
use Rattle.hs_base.specs.Bits.{has_bit, has_word_bit}
use Rattle.hs_base.specs.Regions.{row_size}

-- The row, of as many words as before, has so many bits of the region from the byte `from` on.
pub record IsRowRead (from bits : ℕ) (region old new : List ℕ) : Type 0 where
  pub len : length new ≡ length old
  pub row_is : (k : ℕ) → k < bits → has_word_bit new k ≡ has_bit region (8 * from + k)

-- So many bits from the byte `from` on are those of the row, and every other bit is as before, as is every byte that
-- has none of them.
pub record IsRowWritten (from bits : ℕ) (row old new : List ℕ) : Type 0 where
  pub len : length new ≡ length old
  pub row_is : (k : ℕ) → k < bits → has_bit new (8 * from + k) ≡ has_word_bit row k
  pub others : (k : ℕ) → (k < 8 * from) ⊎ (8 * from + bits ≤ k) → has_bit new k ≡ has_bit old k
  pub bytes : (i : ℕ) → (i < from) ⊎ (from + row_size bits ≤ i) → slice_index new i ≡ slice_index old i
