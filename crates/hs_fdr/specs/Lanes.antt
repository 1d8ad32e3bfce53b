-- Sixteen lanes.
use Rattle.std.specs.Prelude.{◌≡◌, ℕ, ◌+◌, ◌-◌, ◌<◌, ◌&&◌, List, length, slice_index, nat_le, nat_lt, if◌then◌else◌}

-- there are sixteen lanes, and lane k holds f k
pub record HasLanes (lanes : List ℕ) (f : ℕ → ℕ) : Type 0 where
  pub long : length lanes ≡ 16
  pub each : (k : ℕ) → k < 16 → slice_index lanes k ≡ f k

-- of 64 places, as many as `count` from one on were given the first lanes, and the others stayed
abbrev pub IsStored : (lanes : List ℕ) (count at : ℕ) (old new : List ℕ) → Type 0
IsStored lanes count at old new =
    (i : ℕ) → i < 64 → slice_index new
    i ≡ (if nat_le at i && nat_lt i (at + count) then slice_index lanes (i - at) else slice_index old i)
