-- Which places of a block have a bucket left open, as the bits of a word.
use Rattle.std.specs.Prelude.{◌≡◌, ◌≢◌, ℕ, ◌+◌, ◌<◌, ◌≤◌, ◌↔◌, List, length, slice_index}
use Rattle.std.specs.Int.{bit_at}

-- a 1 for each of 64 places from one on whose mask leaves a bucket open, and for no other
abbrev pub AreOpenPlaces : (masks : List ℕ) → (from marks : ℕ) → Type 0
AreOpenPlaces masks from marks = (i : ℕ) → (bit_at marks i ≡ 1) ↔ ((from ≤ i) × (i < 64) × (slice_index masks i ≢ 255))

-- behind the last byte no place has a bucket left open, in a block from a place of the bytes on
abbrev pub ClosedBehind : (masks bytes : List ℕ) → (from : ℕ) → Type 0
ClosedBehind masks bytes from = (i : ℕ) → i < 64 → length bytes ≤ from + i → slice_index masks i ≡ 255
