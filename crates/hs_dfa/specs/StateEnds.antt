-- What the states of an automaton say of the end of a match.
use Rattle.std.specs.Prelude.{◌≡◌, ◌↔◌, ℕ, true, false, ◌&&◌, List, length, Some, slice_get, vec_len}
use Rattle.hs_base.specs.declared.context.Next.{Next}
use Rattle.hs_base.specs.Bits.{has_word_bit}
use Rattle.hs_base.specs.ContextSets.{has_next}
use Rattle.hs_engine.specs.declared.automaton.Automaton.{Automaton}
use Rattle.hs_engine.specs.AnyBelow.{any_below}
use Rattle.hs_engine.specs.Automata as automata
use Rattle.hs_engine.specs.Between.{between}
use Rattle.hs_states.specs.declared.footing.Footing.{Footing}
use Rattle.hs_dfa.specs.declared.state_ends.StateEnd.{StateEnd}

-- in which contexts a live position accepts, and whether there is one
pub record IsEndOf (a : Automaton) (state : Footing) (end : StateEnd) : Type 0 where
  pub accepts : (next : Next) → has_next end.accepts next
      ≡ any_below (vec_len a.sets)
      (λ x. has_word_bit state.positions x && automata.accepts a x (between state.prev next))
  pub is_empty : (end.is_empty ≡ true) ↔ (any_below (vec_len a.sets) (has_word_bit state.positions) ≡ false)

-- so of each of the first so many states
pub record AreEndsOf (a : Automaton) (states : List Footing) (count : ℕ) (ends : List StateEnd) : Type 0 where
  pub len : length ends ≡ count
  pub each : (k : ℕ) (state : Footing) (end : StateEnd) → slice_get states k ≡ Some state →
      slice_get ends k ≡ Some end → IsEndOf a state end
