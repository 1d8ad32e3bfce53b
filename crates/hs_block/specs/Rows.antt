-- Which positions are live at each place of a block, and words that say so.
use Rattle.std.specs.Prelude.{ℕ, zero, suc, Bool, ◌&&◌, ◌||◌, List, slice_index}
use Rattle.hs_engine.specs.AnyBelow.{any_below}
use Rattle.hs_bits.specs.WordBits.{word_bit}

-- What is said of each place of a block and each of so many positions: that it takes the byte there, that it is entered
-- before that byte, and which others may come before it there.
pub record Rules : Type 0 where
  pub size : ℕ
  pub takes : (place position : ℕ) → Bool
  pub begins : (place position : ℕ) → Bool
  pub follows : (place from to : ℕ) → Bool

-- the position is live behind the byte of that place, where those are before it that pass the test
abbrev pub is_next : Rules → (place : ℕ) (live : ℕ → Bool) (position : ℕ) → Bool
is_next rules i live x =
    rules.takes i x && (rules.begins i x || any_below rules.size (λ y. live y && rules.follows i y x))

-- the positions that are live before the byte of that place, where those are before the first one that pass the test
abbrev pub row : Rules → (start : ℕ → Bool) (place position : ℕ) → Bool
row rules start zero x = start x
row rules start (suc i) x = is_next rules i (row rules start i) x

-- the same, read from a word for each position: the bit of a place tells what is behind its byte
abbrev pub live_at : (start : ℕ → Bool) (words : List ℕ) (place position : ℕ) → Bool
live_at start words zero x = start x
live_at start words (suc i) x = word_bit (slice_index words x) i
