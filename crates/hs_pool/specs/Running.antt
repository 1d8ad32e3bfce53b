-- A block by the states of a pool.
use Rattle.std.specs.Prelude.{◌≡◌, ◌⊎◌, ℕ, zero, suc, ◌<◌, List, false, length, Some, slice_get, slice_index, take}
use Rattle.hs_base.specs.declared.byte_set.ByteSet.{ByteSet}
use Rattle.hs_base.specs.declared.context.Prev.{Prev}
use Rattle.hs_base.specs.ByteSets.{has}
use Rattle.hs_base.specs.Contexts.{prev_behind}
use Rattle.hs_bits.specs.WordBits.{word_bit}
use Rattle.hs_engine.specs.Engines.{AreWakers, Meaning}
use Rattle.hs_pool.specs.Following.{IsKnownRun}
use Rattle.hs_pool.specs.Rows.{IsStateAt}
use Rattle.hs_pool.specs.declared.following.Taken.{Taken}
use Rattle.hs_pool.specs.declared.pool.StatePool.{StatePool}
use Rattle.hs_pool.specs.declared.state.State.{State}

-- what stands before the byte at a place of a block behind `prev`
abbrev pub prev_to : Prev → (bytes : List ℕ) (place : ℕ) → Prev
prev_to prev bytes zero = prev
prev_to prev bytes (suc p) = prev_behind (Some (slice_index bytes p))

-- a state of that number is there, and not the first one: one of the engine
pub record IsStateFor (states : List State) (s engine : ℕ) : Type 0 where
  pub state : State
  pub is : slice_get states s ≡ Some state
  pub engine_is : state.engine ≡ engine
  pub some : s ≡ 0 → ⊥

-- all states are there still
abbrev pub AreStatesKept : (old new : StatePool) → Type 0
AreStatesKept old new =
    (s : ℕ) (state : State) → slice_get old.states.items s ≡ Some state → slice_get new.states.items s ≡ Some state

-- Known steps of the pool take the bytes of a block from that place on, from the state of the engine with that region.
pub record IsPath (pool : StatePool) (engine : ℕ) (region : List ℕ) (prev : Prev) (from enters : ℕ) (bytes : List ℕ)
    (taken : Taken) : Type 0 where
  pub first : ℕ
  pub padded : List ℕ
  pub starts : IsStateAt pool.states.items first engine prev padded
  pub padded_is : take (length region) padded ≡ region
  pub run : IsKnownRun pool.rows.items first from enters bytes taken

-- Before that place the expression is entered before no byte of the block that may wake the engine.
pub record IsUnwokenTo (m : Meaning) (enters : ℕ) (bytes : List ℕ) (place : ℕ) : Type 0 where
  pub wakers : ByteSet
  pub are : AreWakers m wakers
  pub none : (i : ℕ) → i < place → (word_bit enters i ≡ false) ⊎ (has wakers (slice_index bytes i) ≡ false)
