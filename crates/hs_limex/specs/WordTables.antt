-- Bits in a table of rows of words.
use Rattle.std.specs.Prelude.{◌≡◌, ℕ, ◌+◌, ◌*◌, ◌≤◌, Bool, ◌&&◌, nat_lt}
use Rattle.hs_limex.specs.declared.word_rows.WordRows.{WordRows}
use Rattle.hs_base.specs.Bits.{has_word_bit}

-- in the row of that number, the bit k is set
unfoldable pub in_table : WordRows → ℕ → ℕ → Bool
in_table rows n k =
    nat_lt n rows.count
    && (nat_lt k (64 * rows.width) && has_word_bit rows.words.items (64 * (rows.width * n) + k))

-- Rows of so many words stand in arrays of so many: there is room, and where an array has four words or fewer a row
-- has as many.
pub record RowsFit (width words : ℕ) : Type 0 where
  pub room : width ≤ words
  pub few : words ≤ 8
  pub exact : words ≤ 4 → width ≡ words
