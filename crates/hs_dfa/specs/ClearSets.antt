-- Sets of states of so many positions.
use Rattle.std.specs.Prelude.{ℕ, ◌*◌, ◌<◌, ◌≤◌}
use Rattle.hs_engine.specs.Tables.{IsClearFrom}
use Rattle.hs_states.specs.StateSets.{set_bytes, set_width, state_count}
use Rattle.hs_states.specs.declared.state_sets.StateSets.{StateSets}

-- there is room for so many bits, and none is set behind them
pub record AreClear (sets : StateSets) (size : ℕ) : Type 0 where
  pub room : size ≤ 8 * set_width sets
  pub each : (n : ℕ) → n < state_count sets → IsClearFrom (set_bytes sets n) size
