-- Numbers in rows: the first number of each row, and behind each number the next one of its row.
use Rattle.std.specs.Prelude.{◌≡◌, ◌≢◌, ℕ, ◌+◌, ◌<◌, ◌≤◌, false, List, length, slice_index}
use Rattle.hs_base.specs.Bits.{has_word_bit}

-- the least number from one on that stands in the row, or at least the count of all numbers where there is none
pub record IsLeastFrom (rows : List ℕ) (row from number : ℕ) : Type 0 where
  pub low : from ≤ number
  pub passed : (k : ℕ) → from ≤ k → k < number → k < length rows → slice_index rows k ≢ row
  pub stands : number < length rows → slice_index rows number ≡ row

-- the same of all rows and numbers, where only those from one on count
pub record AreChainsFrom (rows : List ℕ) (from : ℕ) (heads nexts : List ℕ) : Type 0 where
  pub first : (row : ℕ) → row < length heads → IsLeastFrom rows row from (slice_index heads row)
  pub after : (k : ℕ) → from ≤ k → k < length rows → IsLeastFrom rows (slice_index rows k) (k + 1) (slice_index nexts k)

abbrev pub AreChains : (rows heads nexts : List ℕ) → Type 0
AreChains rows heads nexts = AreChainsFrom rows 0 heads nexts

-- where the bit of a row is not set, its first number is the count of all: the row is empty
abbrev pub AreMarked : (words heads : List ℕ) → (count : ℕ) → Type 0
AreMarked words heads count =
    (row : ℕ) → row < length heads → has_word_bit words row ≡ false → slice_index heads row ≡ count
