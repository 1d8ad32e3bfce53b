-- What is promised of an engine that is built.
use Rattle.std.specs.Prelude.{◌≡◌, ◌↔◌, ℕ, Bool, true, List, Some, slice_get, slice_index}
use Rattle.hs_base.specs.Trees.{Tree}
use Rattle.hs_base.specs.WrittenOut.{write_out}
use Rattle.hs_states.specs.DfaStates.{AreStatesOf, DfaState, IsEmptyState, tests_of}
use Rattle.hs_dfa.specs.DfaEngines.{IsDfaOf}
use Rattle.hs_dfa.specs.declared.dfa.Dfa.{Dfa}

-- it is told whether the state of the region is without a live position
abbrev pub IsEmptyAt : Dfa → (region : List ℕ) → Bool → Type 0
IsEmptyAt d region is_empty =
    (tree : Tree) (states : List DfaState) (state : DfaState) →
    IsDfaOf d tree →
    AreStatesOf (write_out tree) d.has_assertion states →
    slice_get states (slice_index region 0) ≡ Some state →
    (is_empty ≡ true) ↔ IsEmptyState (tests_of (write_out tree)) state
