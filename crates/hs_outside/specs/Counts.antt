-- Counts of faults. They never fall.
use Rattle.std.specs.Prelude.{◌≢◌, ℕ, ◌+◌, ◌<◌, ◌≤◌, min}

-- the last value of a counter, 2^64 - 1, at which it stands still
abbrev pub last_count : ℕ
last_count = 18446744073709551615

-- a count rose: it is not less, and it is more unless it stands at the last value
pub record Rose (before now : ℕ) : Type 0 where
  pub not_less : before ≤ now
  pub more : now ≢ last_count → before < now

-- a counter after one more
abbrev pub raised : ℕ → ℕ
raised count = min (count + 1) last_count
