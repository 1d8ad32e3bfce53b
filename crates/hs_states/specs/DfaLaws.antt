-- What holds of the states of an expression.
use Rattle.std.specs.Prelude.{◌≡◌, ℕ, ◌<◌, Bool, List, EachIndex, slice_index, Some, slice_get}
use Rattle.hs_base.specs.Fields.{entered_always}
use Rattle.hs_base.specs.Trees.{Tree}
use Rattle.hs_base.specs.WrittenOut.{Core, write_out}
use Rattle.hs_base.specs.AssertionTests.{has_assertion}
use Rattle.hs_states.specs.DfaStates.{AreStatesOf, DfaState}
use Rattle.hs_states.specs.DfaHistories.{IsStateOf}

-- An expression has its states in one order alone.
abbrev pub StatesHaveOneOrder : Type 0
StatesHaveOneOrder =
    (r : Core) (keeps : Bool) (xs ys : List DfaState) →
    AreStatesOf r keeps xs →
    AreStatesOf r keeps ys →
    xs ≡ ys

-- the state behind the bytes u is among those
pub record HasStateOf (r : Core) (keeps : Bool) (u : List ℕ) (states : List DfaState) : Type 0 where
  pub number : ℕ
  pub state : DfaState
  pub at : slice_get states number ≡ Some state
  pub is : IsStateOf r keeps u (entered_always u) state

-- Each stream has its state among them, where the expression is entered at every offset.
abbrev pub StreamsHaveStates : Type 0
StreamsHaveStates =
    (tree : Tree) (u : List ℕ) (states : List DfaState) →
    EachIndex u (λ k. slice_index u k < 256) →
    AreStatesOf (write_out tree) (has_assertion tree) states →
    HasStateOf (write_out tree) (has_assertion tree) u states
