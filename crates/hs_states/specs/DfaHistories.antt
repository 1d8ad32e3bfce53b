-- Which state a stream of bytes has.
use Rattle.std.specs.Prelude.{◌≡◌, ◌↔◌, ℕ, Bool, true, List, length}
use Rattle.hs_base.specs.Contexts.{prev_at}
use Rattle.hs_base.specs.WrittenOut.{Core, count, IsReached}
use Rattle.hs_states.specs.DfaStates.{DfaState, is_live, kept_prev}

-- The state behind the bytes u: just the positions are live that are reached there.
pub record IsStateOf (r : Core) (has_assertion : Bool) (u : List ℕ) (entered : List Bool) (state : DfaState) : Type 0
  where
    pub size : length state.live ≡ count r
    pub live : (x : ℕ) → (is_live state x ≡ true) ↔ IsReached r u entered x
    pub prev : state.prev ≡ kept_prev has_assertion (prev_at u (length u))
