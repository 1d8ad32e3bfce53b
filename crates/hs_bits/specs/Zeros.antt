-- Zeros in bytes.
use Rattle.std.specs.Prelude.{◌≡◌, ℕ, ◌<◌, ◌≤◌, List, slice_index}

-- all bytes from one place to before the other are 0
abbrev pub IsZeroBetween : (bytes : List ℕ) (at end : ℕ) → Type 0
IsZeroBetween bytes at end = (k : ℕ) → at ≤ k → k < end → slice_index bytes k ≡ 0
