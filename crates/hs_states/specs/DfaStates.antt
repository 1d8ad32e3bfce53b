-- The states of an expression's subset construction: which positions are live, and what stands before.
use Rattle.std.specs.Prelude.{ℕ, Bool, true, false, ◌&&◌, ◌||◌, ◌==◌, List, map, get_or, ◌≡◌}
use Rattle.std.specs.List.{range_with_len}
use Rattle.hs_base.specs.declared.context.Prev.{Prev}
use Rattle.hs_base.specs.declared.context.Prev.TheVariants as before
use Rattle.hs_base.specs.declared.context.Next.{Next}
use Rattle.hs_base.specs.Assertions.{line_feed, is_word_byte}
use Rattle.hs_base.specs.Contexts.{Context, class_of, prev_by}
use Rattle.hs_base.specs.WrittenOut.{Core, count, set_of}
use Rattle.hs_engine.specs.AnyBelow.{any_below}
use Rattle.hs_engine.specs.Between.{between}
use Rattle.hs_engine.specs.Positions.{accept, enter, follow}
use Rattle.hs_states.specs.Discovery.{AreAllDiscovered}

-- for each position whether it is live, and what stands before
pub record DfaState : Type 0 where
  pub live : List Bool
  pub prev : Prev

-- the position is live in the state
abbrev pub is_live : DfaState → ℕ → Bool
is_live state x = get_or state.live x false

-- of so many positions those are live of which the test holds
abbrev pub state_where : (count : ℕ) (test : ℕ → Bool) (prev : Prev) → DfaState
state_where count test prev = record { live = map test (range_with_len 0 count); prev = prev }

-- what a state keeps of what stands before: nothing, where the expression has no assertion
abbrev pub kept_prev : (has_assertion : Bool) → Prev → Prev
kept_prev true prev = prev
kept_prev false prev = before.Other

-- What is asked of the positions of an expression: how many there are, whether a position takes a byte, is entered,
-- follows another, and accepts.
pub record PositionTests : Type 0 where
  pub size : ℕ
  pub takes : (x b : ℕ) → Bool
  pub enters : (x : ℕ) (c : Context) → Bool
  pub follows : (x y : ℕ) (c : Context) → Bool
  pub accepts : (x : ℕ) (c : Context) → Bool

abbrev pub tests_of : Core → PositionTests
tests_of r = record {
  size = count r;
  takes = λ x b. get_or (set_of r x) b false;
  enters = enter r;
  follows = follow r;
  accepts = accept r;
}

-- the byte leads from the state to the position: it takes the byte, and is entered there or follows a live position
abbrev pub is_led_to : PositionTests → DfaState → (byte y : ℕ) → Bool
is_led_to t state byte y =
    t.takes y byte
    && (t.enters y (between state.prev (class_of byte))
    || any_below t.size (λ x. is_live state x && t.follows x y (between state.prev (class_of byte))))

-- the state to which the byte leads: the expression is entered before every byte
abbrev pub move_by : PositionTests → (has_assertion : Bool) → DfaState → (byte : ℕ) → DfaState
move_by t has_assertion state byte =
    state_where t.size (is_led_to t state byte)
    (kept_prev has_assertion (prev_by (byte == line_feed) (is_word_byte byte)))

-- the state before the first byte: no position is live
abbrev pub first_state : PositionTests → (has_assertion : Bool) → DfaState
first_state t has_assertion = state_where t.size (λ x. false) (kept_prev has_assertion before.Start)

-- some position accepts that is live in the state, where `next` comes next
abbrev pub is_accepting : PositionTests → DfaState → Next → Bool
is_accepting t state next = any_below t.size (λ x. is_live state x && t.accepts x (between state.prev next))

-- no position is live in the state
abbrev pub IsEmptyState : PositionTests → DfaState → Type 0
IsEmptyState t state = any_below t.size (is_live state) ≡ false

-- The states by their numbers: all that bytes lead to from the first one, in the order in which they are discovered.
abbrev pub AreStatesBy : PositionTests → (has_assertion : Bool) → List DfaState → Type 0
AreStatesBy t has_assertion = AreAllDiscovered (first_state t has_assertion) (move_by t has_assertion)

-- those of an expression
abbrev pub AreStatesOf : Core → (has_assertion : Bool) → List DfaState → Type 0
AreStatesOf r = AreStatesBy (tests_of r)
