-- How words of positions come to rest, one position at a time.
use Rattle.std.specs.Prelude.{◌≡◌, ℕ, ◌<◌, ◌≤◌, Bool, false, List, length, slice_index}
use Rattle.hs_base.specs.Bits.{has_word_bit}
use Rattle.hs_block.specs.Rows.{Rules, is_next, live_at}
use Rattle.hs_bits.specs.WordBits.{word_bit}

-- at each of 64 places the word of the position is what the words make it
abbrev pub Holds : Rules → (start : ℕ → Bool) (words : List ℕ) (position : ℕ) → Type 0
Holds rules start words x =
    (i : ℕ) → i < 64 → word_bit (slice_index words x) i ≡ is_next rules i (live_at start words i) x

-- Of so many positions those are marked whose words may be other than 0, in a row of so many words.
pub record AreLive (size width : ℕ) (words live : List ℕ) : Type 0 where
  pub len : length live ≡ width
  pub few : (y : ℕ) → size ≤ y → has_word_bit live y ≡ false
  pub dark : (y : ℕ) → has_word_bit live y ≡ false → slice_index words y ≡ 0

-- Each position holds of which nothing is to be done, and the words are 0 of those that aren't live.
pub record IsSettled (rules : Rules) (start : ℕ → Bool) (words todo live : List ℕ) : Type 0 where
  pub room : rules.size ≤ length words
  pub live_few : (y : ℕ) → rules.size ≤ y → has_word_bit live y ≡ false
  pub dark : (y : ℕ) → has_word_bit live y ≡ false → slice_index words y ≡ 0
  pub holds : (x : ℕ) → x < rules.size → has_word_bit todo x ≡ false → Holds rules start words x
