-- Numbers that are marked, as rows of words.
use Rattle.std.specs.Prelude.{◌≡◌, ◌*◌, ◌^◌, ◌<◌, ◌≤◌, ℕ, Bool, not, ◌==◌, List, length, slice_index}
use Rattle.hs_base.specs.Bits.{has_word_bit}

-- the number is marked
abbrev pub is_marked : (marks : List ℕ) → ℕ → Bool
is_marked marks k = has_word_bit marks k

-- how many numbers may be marked: those below
abbrev pub mark_room : (marks : List ℕ) → ℕ
mark_room marks = 64 * length marks

-- Bit w of the summary tells whether a bit of word w is set.
pub record IsSummed (words summary : List ℕ) : Type 0 where
  pub room : length words ≤ 64 * length summary
  pub small : 64 * length words < 2 ^ 63
  pub small_summary : 64 * length summary < 2 ^ 63
  pub is : (w : ℕ) → w < length words → has_word_bit summary w ≡ not (slice_index words w == 0)
