-- Positions that follow near by, and those that don't.
use Rattle.std.specs.Prelude.{◌≡◌, ℕ, ◌+◌, ◌<◌, ◌≤◌, true}
use Rattle.hs_base.specs.Contexts.{Context}
use Rattle.hs_engine.specs.declared.follow_rows.FollowRows.{FollowRows}
use Rattle.hs_engine.specs.Rows.{in_row}
use Rattle.hs_limex.specs.declared.word_rows.WordRows.{WordRows}
use Rattle.hs_limex.specs.WordTables.{in_table}

-- the position y lies from the position x to 7 places on
pub record IsNearFrom (x y : ℕ) : Type 0 where
  pub least : x ≤ y
  pub most : y < x + 8

-- the first row has positions alone
abbrev pub IsFew : WordRows → ℕ → Type 0
IsFew rows size = (k : ℕ) → in_table rows 0 k ≡ true → k < size

-- the position y follows x by a bit of the first row, or it lies near
pub data Follows (rows : WordRows) (x y : ℕ) : Type 0 where
  far : in_table rows 0 x ≡ true → Follows rows x y
  near : IsNearFrom x y → Follows rows x y

-- what follows in the context lies near, but where the first row has a bit
abbrev pub LeavesFar : WordRows → FollowRows → Context → Type 0
LeavesFar rows follows c = (x y : ℕ) → in_row follows x y c ≡ true → Follows rows x y
