-- The states of an expression as sets of positions by bytes, by their numbers.
use Rattle.std.specs.Prelude.{◌≡◌, ℕ, ◌+◌, ◌/◌, ◌<◌, List, Option, MatchOption, get_or, length, vec_len}
use Rattle.std.specs.Prelude.{Some, slice_get}
use Rattle.hs_base.specs.declared.context.Prev.{Prev}
use Rattle.hs_base.specs.declared.context.Prev.TheVariants as before
use Rattle.hs_base.specs.Bits.{has_bit}
use Rattle.hs_base.specs.Lists.{Each}
use Rattle.hs_base.specs.Trees.{Tree}
use Rattle.hs_base.specs.WrittenOut as written
use Rattle.hs_base.specs.AssertionTests.{has_assertion}
use Rattle.hs_states.specs.DfaStates.{AreStatesOf, DfaState, is_live, kept_prev}
use Rattle.hs_states.specs.PackedSets.{set_at}
use Rattle.hs_states.specs.declared.state_sets.StateSets.{StateSets}

-- how many states there are
abbrev pub state_count : StateSets → ℕ
state_count sets = vec_len sets.prevs

-- how many bytes a set has
abbrev pub set_width : StateSets → ℕ
set_width sets = sets.width

-- the set of the state of that number
abbrev pub set_bytes : StateSets → ℕ → List ℕ
set_bytes sets number = set_at sets.width sets.sets.items number

-- what stands before in that state
abbrev pub prev_of : StateSets → ℕ → Prev
prev_of sets number = get_or sets.prevs.items number before.Other

-- The bytes are the set of the positions that are live in the state.
pub record IsSetOf (width : ℕ) (bytes : List ℕ) (state : DfaState) : Type 0 where
  pub size : length bytes ≡ width
  pub small : Each (λ b. b < 256) bytes
  pub bits : (x : ℕ) → has_bit bytes x ≡ is_live state x

-- The sets are those of the states of the expression, by their numbers.
pub record AreSetsOf (sets : StateSets) (tree : Tree) : Type 0 where
  pub states : List DfaState
  pub all : AreStatesOf (written.write_out tree) (has_assertion tree) states
  pub keeps : sets.has_assertion ≡ has_assertion tree
  pub count : length states ≡ state_count sets
  pub width : set_width sets ≡ (written.count (written.write_out tree) + 7) / 8
  pub each : (i : ℕ) (state : DfaState) → slice_get states i ≡ Some state →
      IsSetOf (set_width sets) (set_bytes sets i) state × (prev_of sets i ≡ state.prev)

-- The state of that number has these bytes as its set, and keeps what stands before.
pub record IsStateNumber (sets : StateSets) (bytes : List ℕ) (stands : Prev) (number : ℕ) : Type 0 where
  pub within : number < state_count sets
  pub set : set_bytes sets number ≡ bytes
  pub prev : prev_of sets number ≡ kept_prev sets.has_assertion stands

-- the number of such a state, or None where there is none
abbrev pub IsNumberOfSet : StateSets → List ℕ → Prev → Option ℕ → Type 0
IsNumberOfSet sets bytes stands found =
    MatchOption found ((number : ℕ) → IsStateNumber sets bytes stands number → ⊥)
    (λ number. IsStateNumber sets bytes stands number)

-- A set, with what stands before, has one number alone.
abbrev pub SetsHaveOneNumber : Type 0
SetsHaveOneNumber =
    (sets : StateSets) (tree : Tree) (bytes : List ℕ) (stands : Prev) (i j : ℕ) →
    AreSetsOf sets tree →
    IsStateNumber sets bytes stands i →
    IsStateNumber sets bytes stands j →
    i ≡ j
