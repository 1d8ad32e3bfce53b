-- Where the literals of a list end in bytes: pairs of an offset in the bytes, behind the last byte of the literal, and
-- the literal's number, counted from 0.
use Rattle.std.specs.Prelude.{◌≡◌, ℕ, ◌+◌, ◌<◌, ◌≤◌, ◌⊎◌, ◌↔◌, List, ◌++◌, Some, length, slice_get}
use Rattle.hs_base.specs.Literals.{LiteralByte}
use Rattle.hs_base.specs.Lists.{IsMember, IsRising}
use Rattle.hs_base.specs.LiteralEnds.{EndsAt}

-- the literal of that number ends there, behind one of the bytes; it may begin in the history, which stands before them
pub record IsScanEnd (literals : List (List LiteralByte)) (history bytes : List ℕ) (end number : ℕ) : Type 0 where
  pub literal : List LiteralByte
  pub numbered : slice_get literals number ≡ Some literal
  pub some : 1 ≤ end
  pub within : end ≤ length bytes
  pub ends : EndsAt literal (history ++ bytes) (length history + end)

-- the one ends before the other, or with it and has the lower number
abbrev pub IsEndBefore : ℕ × ℕ → ℕ × ℕ → Type 0
IsEndBefore x y = (x.0 < y.0) ⊎ ((x.0 ≡ y.0) × (x.1 < y.1))

-- exactly these ends, each once, by rising end and then number
pub record AreScanEnds (literals : List (List LiteralByte)) (history bytes : List ℕ) (ends : List (ℕ × ℕ)) : Type 0
  where
    pub rising : IsRising IsEndBefore ends
    pub exact : (x : ℕ × ℕ) → IsMember x ends ↔ IsScanEnd literals history bytes x.0 x.1
