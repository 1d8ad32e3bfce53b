-- Widths that no literal is shorter than.
use Rattle.std.specs.Prelude.{ℕ, ◌<◌, ◌≤◌, List, slice_index}

-- none of the first so many literals, given by their lengths, is shorter than the width of its bucket
abbrev pub AreShort : (widths lens buckets : List ℕ) → ℕ → Type 0
AreShort widths lens buckets count =
    (number : ℕ) → number < count → slice_index widths (slice_index buckets number) ≤ slice_index lens number
