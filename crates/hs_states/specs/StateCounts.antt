-- How many states an expression has.
use Rattle.std.specs.Prelude.{◌≤◌, List, length}
use Rattle.hs_base.specs.Trees.{Tree}
use Rattle.hs_base.specs.WrittenOut.{write_out}
use Rattle.hs_base.specs.AssertionTests.{has_assertion}
use Rattle.hs_states.specs.DfaStates.{AreStatesOf, DfaState}

-- an expression has more than 255 states: no list of less is that of its states
abbrev pub HasMoreStates : Tree → Type 0
HasMoreStates tree =
    (states : List DfaState) → AreStatesOf (write_out tree) (has_assertion tree) states → length states ≤ 255 → ⊥
