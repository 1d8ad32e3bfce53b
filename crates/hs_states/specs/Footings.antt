-- Positions by words of bits, with what stands at the same place.
use Rattle.std.specs.Prelude.{◌≡◌, ℕ, Bool, true, ◌&&◌, ◌||◌, List, Option, MatchOption, Some, slice_get, vec_len, ◌<◌}
use Rattle.hs_base.specs.Bits.{has_word_bit}
use Rattle.hs_base.specs.declared.context.Next.{Next}
use Rattle.hs_engine.specs.declared.automaton.Automaton.{Automaton}
use Rattle.hs_engine.specs.AnyBelow.{any_below}
use Rattle.hs_engine.specs.Automata.{enters, follows}
use Rattle.hs_engine.specs.Between.{between}
use Rattle.hs_states.specs.NextBehind.{next_behind}
use Rattle.hs_states.specs.declared.footing.Footing.{Footing}

-- both have the same positions, and the same stands there
pub record IsAlike (one other : Footing) : Type 0 where
  pub positions : (k : ℕ) → has_word_bit one.positions k ≡ has_word_bit other.positions k
  pub prev : one.prev ≡ other.prev

-- the position k is entered behind the state, or follows a live one, where that comes next
abbrev pub is_led_on : Automaton → (state : Footing) → Next → ℕ → Bool
is_led_on a state next k =
    enters a k (between state.prev next)
    || any_below (vec_len a.sets) (λ x. has_word_bit state.positions x && follows a x k (between state.prev next))

-- a byte that does this leads from the state to the position k
abbrev pub is_moved_to : Automaton → (state byte : Footing) → ℕ → Bool
is_moved_to a state byte k = has_word_bit byte.positions k && is_led_on a state (next_behind byte.prev) k

-- none of them is like that one
abbrev pub IsNewTo : List Footing → Footing → Type 0
IsNewTo footings one = (i : ℕ) (f : Footing) → slice_get footings i ≡ Some f → IsAlike f one → ⊥

-- one of that number is like it
pub record IsLikeOne (footings : List Footing) (one : Footing) (number : ℕ) : Type 0 where
  pub like : Footing
  pub at : slice_get footings number ≡ Some like
  pub alike : IsAlike like one

-- the number of one that is like it, or None where there is none
abbrev pub IsNumberAmong : List Footing → Footing → Option ℕ → Type 0
IsNumberAmong footings one number = MatchOption number (IsNewTo footings one) (IsLikeOne footings one)

-- no position from that one on
abbrev pub HasPositionsBelow : ℕ → Footing → Type 0
HasPositionsBelow size f = (k : ℕ) → has_word_bit f.positions k ≡ true → k < size
