-- The rows of the first bytes of matches, by the tables of positions.
use Rattle.std.specs.Prelude.{◌≡◌, ℕ, zero, suc, ◌+◌, ◌<◌, true, List, length, Some, slice_get}
use Rattle.hs_base.specs.declared.byte_set.ByteSet.{ByteSet}
use Rattle.hs_base.specs.Contexts.{Context}
use Rattle.hs_engine.specs.Automata.{in_set}
use Rattle.hs_limex.specs.PositionMoves.{PositionMoves}

-- The position may take the byte of that number, counted from 0, of a match that begins with the first one: it is that
-- one, or follows a position of the level before in some context.
abbrev pub IsMovesLevel : PositionMoves → (first level position : ℕ) → Type 0
IsMovesLevel m first zero x = x ≡ first
IsMovesLevel m first (suc d) y = (x : ℕ) × (c : Context) × IsMovesLevel m first d x × (m.follows x y c ≡ true)

-- The row has a set for each of the first levels of these matches, with the bytes of its positions. No position accepts
-- in any context that is of one of these levels but the last.
pub record IsMovesRow (m : PositionMoves) (first : ℕ) (row : List ByteSet) : Type 0 where
  pub some : 0 < length row
  pub sets : (d x b : ℕ) →
      d < length row →
      IsMovesLevel m first d x →
      b < 256 →
      m.reach b x ≡ true →
      in_set (slice_get row d) b ≡ true
  pub ends : (d x : ℕ) (c : Context) → d + 1 < length row → IsMovesLevel m first d x → m.accepts c x ≡ true → ⊥

-- One of the rows is that of the matches that begin with the position.
abbrev pub HasMovesRow : PositionMoves → (rows : List (List ByteSet)) → (first : ℕ) → Type 0
HasMovesRow m rows x = (k : ℕ) × (row : List ByteSet) × (slice_get rows k ≡ Some row) × IsMovesRow m x row

-- There is such a row for each position that is entered in some context.
abbrev pub AreMovesRows : PositionMoves → (rows : List (List ByteSet)) → Type 0
AreMovesRows m rows = (x : ℕ) (c : Context) → m.enters c x ≡ true → HasMovesRow m rows x
