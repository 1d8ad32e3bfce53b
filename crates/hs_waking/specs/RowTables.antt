-- Rows put into a table, set by set.
use Rattle.std.specs.Prelude.{◌≡◌, ℕ, ◌<◌, ◌≤◌, true, List, [], ◌∷◌, ◌++◌, length, Some, slice_get, slice_index}
use Rattle.hs_base.specs.declared.byte_set.ByteSet.{ByteSet}
use Rattle.hs_base.specs.declared.context.Prev.{Prev}
use Rattle.hs_waking.specs.declared.prev_set.PrevSet.{PrevSet}
use Rattle.hs_waking.specs.declared.row_table.RowTable.{RowTable}
use Rattle.hs_waking.specs.declared.wake_row.WakeRow.{WakeRow}
use Rattle.hs_waking.specs.Fits.{IsBehindBy}
use Rattle.hs_waking.specs.PrevSets.{has_prev}

-- sets that are there stay
abbrev pub Extends : (old new : List ByteSet) → Type 0
Extends old new = (k : ℕ) (set : ByteSet) → slice_get old k ≡ Some set → slice_get new k ≡ Some set

-- The first so many numbers are those of the sets of a beginning of these.
pub record IsCutRow (sets own : List ByteSet) (count : ℕ) (numbers : List ℕ) : Type 0 where
  pub few : count ≤ length own
  pub room : count ≤ length numbers
  pub are : (d : ℕ) → d < count → slice_get sets (slice_index numbers d) ≡ slice_get own d

-- Such a row was put behind the others, of which the sets stay. It may begin behind more than is asked.
pub record PutsRow (old new : RowTable) (behind : PrevSet) (own : List ByteSet) : Type 0 where
  pub row : WakeRow
  pub rows : new.rows.items ≡ old.rows.items ++ row ∷ []
  pub kept : Extends old.sets.items new.sets.items
  pub is : IsCutRow new.sets.items own row.count row.numbers
  pub behind_more : (prev : Prev) → has_prev behind prev ≡ true → has_prev row.behind prev ≡ true
  pub behind_is : IsBehindBy row new.sets.items
