-- What tables of sets and of positions say, by their lists.
use Rattle.std.specs.Prelude.{◌≡◌, ◌≢◌, ℕ, ◌+◌, ◌*◌, ◌<◌, ◌≤◌, ◌&&◌, ◌||◌, ◌==◌, Bool, true, false}
use Rattle.std.specs.Prelude.{List, length, nat_lt, slice_get, slice_index}
use Rattle.hs_base.specs.declared.byte_set.ByteSet.{ByteSet}
use Rattle.hs_base.specs.declared.context.Prev.{Prev}
use Rattle.hs_base.specs.Bits.{has_word_bit, word_count}
use Rattle.hs_base.specs.ByteSets.{has}
use Rattle.hs_base.specs.Contexts.{Context}
use Rattle.hs_engine.specs.Automata.{in_set}
use Rattle.hs_engine.specs.declared.follow_rows.FollowRows.{FollowRows}
use Rattle.hs_engine.specs.Rows.{in_row, square_number}
use Rattle.hs_bits.specs.BlockContexts.{context_before}
use Rattle.hs_bits.specs.WordBits.{word_bit}

-- the position takes the byte, by the number of its set
abbrev pub takes_byte : (sets : List ByteSet) (numbers : List ℕ) (position byte : ℕ) → Bool
takes_byte sets numbers x b = in_set (slice_get sets (slice_index numbers x)) b

-- that bit of the row of that number is set, where rows of so many words stand one behind the other
abbrev pub in_rows : (rows : List ℕ) (width row bit : ℕ) → Bool
in_rows rows width r y = has_word_bit rows (64 * (width * r) + y)

-- Of so many positions the other one may come before the one in that context: in each, or in that one. For each context
-- in which a byte comes next a position has a row of its own.
abbrev pub is_from : (size width : ℕ) (froms rests : List ℕ) (position other : ℕ) → Context → Bool
is_from size width froms rests x y c =
    nat_lt y size && (in_rows froms width x y || in_rows rests width (12 * x + square_number true c) y)

-- the words tell at which places of the block behind `prev` the context has which number of the twelve
abbrev pub AreSquares : (words : List ℕ) → Prev → (bytes : List ℕ) → Type 0
AreSquares words prev bytes =
    (q i : ℕ) →
    q < 12 →
    i < length bytes →
    word_bit (slice_index words q) i ≡ (square_number true (context_before prev bytes i) == q)

-- Rows of so many words stand in arrays of so many: there is room, and where an array has three words or fewer a row
-- has as many.
pub record RowsFit (width words : ℕ) : Type 0 where
  pub room : width ≤ words
  pub few : words ≤ 8
  pub exact : words ≤ 3 → width ≡ words

-- Tables of the sets of so many positions behind a set of first bytes: that one is the first of them.
pub record AreSetTables (sets : List ByteSet) (numbers : List ℕ) (first : ByteSet) (given : List ByteSet) : Type 0 where
  pub some : 0 < length sets
  pub few : length sets ≤ length numbers + 1
  pub within : (x : ℕ) → slice_index numbers x < length sets
  pub first_is : (b : ℕ) → b < 256 → in_set (slice_get sets 0) b ≡ has first b
  pub takes_are : (x b : ℕ) → x < length numbers → b < 256 → takes_byte sets numbers x b ≡ in_set (slice_get given x) b

-- Which of so many positions may come before and behind each other. Those that come behind may be too many.
pub record AreOrders (rows : FollowRows) (width : ℕ) (froms rests successors asks : List ℕ) : Type 0 where
  pub wide : width ≡ word_count rows.size
  pub froms_count : length froms ≡ width * rows.size
  pub successors_count : length successors ≡ width * rows.size
  pub asks_count : length asks ≡ rows.size
  pub asked : rows.by_context ≡ true → width * (12 * rows.size) ≤ length rests
  pub still : rows.by_context ≡ false → (x : ℕ) → slice_index asks x ≡ 0
  pub froms_are : (x y : ℕ) (c : Context) → x < rows.size →
      is_from rows.size width froms rests x y c ≡ in_row rows y x c
  pub few_asked : (x q : ℕ) → 12 ≤ q → word_bit (slice_index asks x) q ≡ false
  pub unasked : (x q y : ℕ) → x < rows.size → q < 12 → y < rows.size → word_bit (slice_index asks x) q ≡ false →
      in_rows rests width (12 * x + q) y ≡ false
  pub successors_have : (x y : ℕ) (c : Context) → x < rows.size → y < rows.size → in_row rows x y c ≡ true → y ≢ x →
      in_rows successors width x y ≡ true
