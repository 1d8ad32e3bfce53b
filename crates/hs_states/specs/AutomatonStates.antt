-- The states of an automaton by its tables.
use Rattle.std.specs.Prelude.{◌≡◌, ℕ, ◌<◌, ◌≤◌, ◌+◌, ◌*◌, ◌==◌, List, map, length}
use Rattle.std.specs.Prelude.{Some, slice_get, slice_index, vec_len, EachIndex}
use Rattle.hs_base.specs.Assertions.{line_feed, is_word_byte}
use Rattle.hs_base.specs.Contexts.{prev_by}
use Rattle.hs_base.specs.Bits.{has_word_bit}
use Rattle.hs_engine.specs.declared.automaton.Automaton.{Automaton}
use Rattle.hs_engine.specs.Automata.{accepts, enters, follows, takes}
use Rattle.hs_states.specs.DfaStates.{AreStatesBy, DfaState, PositionTests, first_state, move_by, state_where}
use Rattle.hs_states.specs.DfaBuilding.{IsSoFar}
use Rattle.hs_states.specs.Footings.{HasPositionsBelow}
use Rattle.hs_states.specs.declared.footing.Footing.{Footing}

-- what the tables of an automaton say of its positions
abbrev pub tests_by : Automaton → PositionTests
tests_by a = record {
  size = vec_len a.sets;
  takes = takes a;
  enters = enters a;
  follows = follows a;
  accepts = accepts a;
}

-- the states of an automaton, as those of its expression
abbrev pub AreStatesIn : Automaton → List DfaState → Type 0
AreStatesIn a = AreStatesBy (tests_by a) a.has_assertion

-- it has no such list of at most 255
abbrev pub HasTooManyStates : Automaton → Type 0
HasTooManyStates a = (states : List DfaState) → AreStatesIn a states → length states ≤ 255 → ⊥

-- the state that a footing is
abbrev pub state_of : (size : ℕ) → Footing → DfaState
state_of size f = state_where size (has_word_bit f.positions) f.prev

-- what a byte does
pub record IsFootingOf (a : Automaton) (byte : ℕ) (f : Footing) : Type 0 where
  pub positions : (k : ℕ) → has_word_bit f.positions k ≡ takes a k byte
  pub prev : f.prev ≡ prev_by (byte == line_feed) (is_word_byte byte)

-- the byte has a class, which is what it does
pub record HasClass (a : Automaton) (footings : List Footing) (class : ℕ → ℕ) (byte : ℕ) : Type 0 where
  pub footing : Footing
  pub at : slice_get footings (class byte) ≡ Some footing
  pub is : IsFootingOf a byte footing

-- The first byte of a class: each lesser byte has an earlier class.
pub record IsFirstOf (class : ℕ → ℕ) (bound number first : ℕ) : Type 0 where
  pub small : first < bound
  pub own : class first ≡ number
  pub before : (b : ℕ) → b < first → class b < number

-- the classes of the bytes below a bound, numbered by their first bytes
pub record AreClassesTo (a : Automaton) (table least : List ℕ) (footings : List Footing) (bound : ℕ) : Type 0 where
  pub whole : length table ≡ 256
  pub len : length least ≡ length footings
  pub few : length footings ≤ bound
  pub classes : (b : ℕ) → b < bound → HasClass a footings (slice_index table) b
  pub firsts : (number : ℕ) → number < length footings →
      IsFirstOf (slice_index table) bound number (slice_index least number)

-- What is built of the states: they are discovered so far, and the rows tell where bytes lead.
pub record AreBuilt (a : Automaton) (class : ℕ → ℕ) (count : ℕ) (known : List Footing) (rows : List ℕ) (i c : ℕ) :
    Type 0 where
  pub so : IsSoFar (first_state (tests_by a) a.has_assertion) (move_by (tests_by a) a.has_assertion) class count
      (map (state_of (vec_len a.sets)) known) rows i c
  pub few : length known ≤ 255
  pub len : length rows ≡ i * count + c
  pub within : EachIndex rows (λ k. slice_index rows k < length known)
  pub positions : (k : ℕ) (f : Footing) → slice_get known k ≡ Some f → HasPositionsBelow (vec_len a.sets) f
