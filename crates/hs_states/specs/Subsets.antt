-- How a state is entered into those that are known, and what is then built.
use Rattle.std.specs.Prelude.{◌≡◌, ℕ, ◌<◌, ◌≤◌, ◌∷◌, [], ◌++◌, Bool, true, false, List, length}
use Rattle.std.specs.Prelude.{Option, Some, None, slice_index, vec_len}
use Rattle.hs_engine.specs.declared.automaton.Automaton.{Automaton}
use Rattle.hs_states.specs.AutomatonStates.{AreBuilt, HasTooManyStates}
use Rattle.hs_states.specs.Footings.{IsLikeOne, IsNewTo}
use Rattle.hs_states.specs.declared.byte_classes.ByteClasses.{ByteClasses}
use Rattle.hs_states.specs.declared.footing.Footing.{Footing}

-- The state is one that is known, and has its number; or it is new, and put behind the others; or it has no room.
pub data IsEntered (old new : List Footing) (one : Footing) (number : Option ℕ) : Type 0 where
  is_known : (k : ℕ) → number ≡ Some k → new ≡ old → IsLikeOne old one k → IsEntered old new one number
  is_added : number ≡ Some (length old) → new ≡ old ++ one ∷ [] → IsNewTo old one → length old < 255 →
      IsEntered old new one number
  is_too_many : number ≡ None → new ≡ old → IsNewTo old one → 255 ≤ length old → IsEntered old new one number

-- built up to that state and class, or there are too many states
pub record BuildsOn (a : Automaton) (classes : ByteClasses) (known : List Footing) (rows : List ℕ) (state class : ℕ)
    (fits : Bool) : Type 0 where
  pub built : fits ≡ true →
      AreBuilt a (slice_index classes.classes) (vec_len classes.footings) known rows state class
  pub too_many : fits ≡ false → HasTooManyStates a

-- built for each of the states
abbrev pub AllBuilt : Automaton → ByteClasses → List Footing → List ℕ → Type 0
AllBuilt a classes known rows =
    AreBuilt a (slice_index classes.classes) (vec_len classes.footings) known rows (length known) 0
