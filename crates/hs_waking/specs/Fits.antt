-- Where a row of sets fits in some bytes.
use Rattle.std.specs.Prelude.{◌≡◌, ℕ, ◌+◌, ◌<◌, true, false, List, length, Option, slice_get, slice_index, take, Some}
use Rattle.hs_base.specs.declared.byte_set.ByteSet.{ByteSet}
use Rattle.hs_base.specs.declared.context.Prev.{Prev}
use Rattle.hs_bits.specs.BlockContexts.{prev_before}
use Rattle.hs_engine.specs.Automata.{in_set}
use Rattle.hs_waking.specs.declared.prev_set.PrevSet.{PrevSet}
use Rattle.hs_waking.specs.declared.wake_row.WakeRow.{WakeRow}
use Rattle.hs_waking.specs.PrevSets.{AreBytesBehind, has_prev, is_each}

-- Each of the first so many sets of a row has its byte from that place on, as far as the bytes go.
abbrev pub FitsTo : (row : ℕ → Option ByteSet) (bytes : List ℕ) (count place : ℕ) → Type 0
FitsTo row bytes count i =
    (d : ℕ) → d < count → i + d < length bytes → in_set (row d) (slice_index bytes (i + d)) ≡ true

-- What stands before a place of bytes behind `prev` is one of these, and each set of the row has its byte from that
-- place on. At the end of the bytes a row fits as far as they go.
abbrev pub FitsAt : PrevSet → (row : List ByteSet) → Prev → (bytes : List ℕ) (place : ℕ) → Type 0
FitsAt behind row prev bytes i =
    (has_prev behind (prev_before prev bytes i) ≡ true) × FitsTo (slice_get row) bytes (length row) i

-- It does so nowhere. The empty row fits wherever it may begin.
abbrev pub FitsNowhere : PrevSet → (row : List ByteSet) → Prev → (bytes : List ℕ) → Type 0
FitsNowhere behind row prev bytes = (i : ℕ) → i < length bytes → FitsAt behind row prev bytes i → ⊥

-- The sets of a row are those of a table under these numbers.
pub record IsRowBy (numbers : List ℕ) (sets row : List ByteSet) : Type 0 where
  pub count : length row ≡ length numbers
  pub are : (d : ℕ) → d < length numbers → slice_get row d ≡ slice_get sets (slice_index numbers d)

-- the numbers of the sets of a row
abbrev pub row_numbers : WakeRow → List ℕ
row_numbers row = take row.count row.numbers

-- A row that may not begin behind all has the number of the set of the bytes behind which it may.
abbrev pub IsBehindBy : WakeRow → (sets : List ByteSet) → Type 0
IsBehindBy row sets =
    is_each row.behind ≡ false →
    (bytes : ByteSet) × (slice_get sets row.behind_number ≡ Some bytes) × AreBytesBehind row.behind bytes
