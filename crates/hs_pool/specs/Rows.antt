-- The states of a pool, and how the rows of their steps are read.
use Rattle.std.specs.Prelude.{◌≡◌, ℕ, ◌+◌, ◌/◌, ◌<◌, Bool, true, false, List, [], Some}
use Rattle.std.specs.Prelude.{slice_get, slice_index, slice_index_or}
use Rattle.hs_base.specs.declared.context.Prev.{Prev}
use Rattle.hs_bits.specs.WordBits.{word_bit}
use Rattle.hs_engine.specs.declared.ends.ByteEnds.{ByteEnds}
use Rattle.hs_pool.specs.declared.state.State.{State}

-- which of the steps of a state a byte makes, before which the expression is entered or not
abbrev pub step_place : (enters : Bool) (byte : ℕ) → ℕ
step_place true byte = 256 + byte
step_place false byte = byte

-- the step of a state by a byte
abbrev pub step_at : (rows : List (List ℕ)) (s : ℕ) (enters : Bool) (byte : ℕ) → ℕ
step_at rows s enters byte = slice_index (slice_index_or rows s []) (step_place enters byte)

-- the state that a step leads to: 0 where it isn't known
abbrev pub next_of : ℕ → ℕ
next_of step = step / 4

-- where a step leaves the expression
abbrev pub ends_of_step : ℕ → ByteEnds
ends_of_step step = record { before = word_bit step 0; behind = word_bit step 1 }

-- the step leads to that state, and leaves the expression there
pub record IsStepTo (step next : ℕ) (ends : ByteEnds) : Type 0 where
  pub next_is : next_of step ≡ next
  pub ends_are : ends_of_step step ≡ ends

-- the state is one of the engine with that number, with that region, where that stands before the next byte
pub record IsStateOf (state : State) (engine : ℕ) (prev : Prev) (region : List ℕ) : Type 0 where
  pub engine_is : state.engine ≡ engine
  pub prev_is : state.prev ≡ prev
  pub region_is : state.region ≡ region

-- a state of that number is there, and not the first one
pub record IsStateAt (states : List State) (s engine : ℕ) (prev : Prev) (region : List ℕ) : Type 0 where
  pub state : State
  pub is : slice_get states s ≡ Some state
  pub of : IsStateOf state engine prev region
  pub some : s ≡ 0 → ⊥

-- each step leads to one of so many states
abbrev pub AreLeading : (rows : List (List ℕ)) (count : ℕ) → Type 0
AreLeading rows count = (s k : ℕ) → s < count → next_of (slice_index (slice_index_or rows s []) k) < count

-- no step of the first state is known
abbrev pub IsSink : (rows : List (List ℕ)) → Type 0
IsSink rows = (k : ℕ) → slice_index (slice_index_or rows 0 []) k ≡ 0

-- No step is known.
abbrev pub AreUnknown : (rows : List (List ℕ)) → Type 0
AreUnknown rows = (s k : ℕ) → slice_index (slice_index_or rows s []) k ≡ 0
