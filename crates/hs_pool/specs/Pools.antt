-- What is owed of the steps of a pool.
use Rattle.std.specs.Prelude.{◌≡◌, ℕ, ◌<◌, Bool, List, Some, slice_get, take}
use Rattle.hs_base.specs.Contexts.{prev_behind}
use Rattle.hs_engine.specs.Engines.{Meaning}
use Rattle.hs_pool.specs.declared.pool.StatePool.{StatePool}
use Rattle.hs_pool.specs.declared.state.State.{State}
use Rattle.hs_pool.specs.Rows.{ends_of_step, next_of, step_at}
use Rattle.hs_engine.specs.Timeless.{TakesStep}

-- A step of a state by a byte is what the engine does.
pub record IsStep (m : Meaning) (states : List State) (old : State) (enters : Bool) (byte step : ℕ) : Type 0 where
  pub next : State
  pub is : slice_get states (next_of step) ≡ Some next
  pub engine_is : next.engine ≡ old.engine
  pub prev_is : next.prev ≡ prev_behind (Some byte)
  pub takes : TakesStep m (take m.width old.region) (take m.width next.region) old.prev enters byte (ends_of_step step)

-- And so are all known steps of the states of the engine with that number.
abbrev pub AreStepsOf : (m : Meaning) (number : ℕ) (states : List State) (rows : List (List ℕ)) → Type 0
AreStepsOf m number states rows =
    (s : ℕ) (old : State) (enters : Bool) (byte : ℕ) →
    slice_get states s ≡ Some old →
    old.engine ≡ number →
    byte < 256 →
    (next_of (step_at rows s enters byte) ≡ 0 → ⊥) →
    IsStep m states old enters byte (step_at rows s enters byte)

abbrev pub IsPoolAt : (m : Meaning) (number : ℕ) → StatePool → Type 0
IsPoolAt m number pool = AreStepsOf m number pool.states.items pool.rows.items

-- The pool has nothing but what its engines do.
abbrev pub IsPoolOf : {E : Type 0} → (E → Meaning) → (engines : List E) → StatePool → Type 0
IsPoolOf {E = E} meaning engines pool =
    (n : ℕ) (e : E) → slice_get engines n ≡ Some e → IsPoolAt (meaning e) n pool

-- What is known of engines with other numbers holds still.
abbrev pub KeepsOthers : {E : Type 0} → (E → Meaning) → (number : ℕ) → (old new : StatePool) → Type 0
KeepsOthers {E = E} meaning number old new =
    (n : ℕ) (e : E) → (n ≡ number → ⊥) → IsPoolAt (meaning e) n old → IsPoolAt (meaning e) n new
