-- What a pool comes to know.
use Rattle.std.specs.Prelude.{◌≡◌, ℕ, ◌<◌, Bool, length, slice_get, Some}
use Rattle.hs_engine.specs.declared.ends.ByteEnds.{ByteEnds}
use Rattle.hs_pool.specs.declared.pool.StatePool.{StatePool}
use Rattle.hs_pool.specs.declared.state.State.{State}
use Rattle.hs_pool.specs.Rows.{IsStepTo, next_of, step_at}

-- All states are there still with the steps that they had, and no step of another one is known.
pub record Grows (old new : StatePool) : Type 0 where
  pub still : (s : ℕ) (state : State) → slice_get old.states.items s ≡ Some state →
      slice_get new.states.items s ≡ Some state
  pub kept : (s : ℕ) (enters : Bool) (byte : ℕ) → s < length old.states.items →
      step_at new.rows.items s enters byte ≡ step_at old.rows.items s enters byte
  pub fresh : (s : ℕ) (enters : Bool) (byte : ℕ) → (s < length old.states.items → ⊥) →
      next_of (step_at new.rows.items s enters byte) ≡ 0

-- The step of a state by a byte leads there, and all others are as before.
pub record IsStepPut (state : ℕ) (enters : Bool) (byte next : ℕ) (ends : ByteEnds) (old new : StatePool) : Type 0 where
  pub states : new.states ≡ old.states
  pub put : IsStepTo (step_at new.rows.items state enters byte) next ends
  pub others : (s : ℕ) (e : Bool) (b : ℕ) → b < 256 → ((s ≡ state → e ≡ enters → b ≡ byte → ⊥)) →
      step_at new.rows.items s e b ≡ step_at old.rows.items s e b

-- All states and steps are as before.
pub record IsAlike (old new : StatePool) : Type 0 where
  pub states : new.states ≡ old.states
  pub rows : new.rows ≡ old.rows

-- Either that, or no step is known.
pub data IsAlikeOrBlank (old new : StatePool) : Type 0 where
  alike : IsAlike old new → IsAlikeOrBlank old new
  blank : ((s : ℕ) (enters : Bool) (byte : ℕ) → next_of (step_at new.rows.items s enters byte) ≡ 0) →
      IsAlikeOrBlank old new
