-- Places between which no literal ends.
use Rattle.std.specs.Prelude.{◌≡◌, ℕ, ◌+◌, ◌<◌, List, ◌++◌, Some, length, slice_get}
use Rattle.hs_base.specs.Literals.{LiteralByte}
use Rattle.hs_base.specs.LiteralEnds.{EndsAt}

-- no literal ends behind the one place and before the other
abbrev pub NoneBetween : List (List LiteralByte) → (history bytes : List ℕ) → (from to : ℕ) → Type 0
NoneBetween literals history bytes from to =
    (end number : ℕ) (literal : List LiteralByte) → from < end → end < to → slice_get literals number ≡ Some literal →
    EndsAt literal (history ++ bytes) (length history + end) → ⊥
