-- The least place of a text whose byte passes a test.
use Rattle.std.specs.Prelude.{◌≡◌, ℕ, ◌<◌, ◌≤◌, Bool, true, false, List, length, slice_index, Option, MatchOption}

-- no byte from one place on and before another passes
abbrev pub NonePasses : (ℕ → Bool) → List ℕ → ℕ → ℕ → Type 0
NonePasses test bytes from to = (k : ℕ) → from ≤ k → k < to → test (slice_index bytes k) ≡ false

-- the byte at that place passes, and none does from one place on and before it
pub record IsFirstAt (test : ℕ → Bool) (bytes : List ℕ) (from to at : ℕ) : Type 0 where
  pub low : from ≤ at
  pub high : at < to
  pub passes : test (slice_index bytes at) ≡ true
  pub least : NonePasses test bytes from at

-- the first place from one on and before another whose byte passes, or None where none does
abbrev pub IsFirstOf : (ℕ → Bool) → List ℕ → ℕ → ℕ → Option ℕ → Type 0
IsFirstOf test bytes from to place = MatchOption place (NonePasses test bytes from to) (IsFirstAt test bytes from to)

-- the least place at or after one whose byte passes, or None where none does
abbrev pub IsLeastPlace : (ℕ → Bool) → List ℕ → ℕ → Option ℕ → Type 0
IsLeastPlace test bytes from place = IsFirstOf test bytes from (length bytes) place
