-- That the steps of an automaton are what its engines do.
use Rattle.std.specs.Prelude.{◌≡◌, ℕ, ◌+◌, ◌<◌, ◌≤◌, Bool, false, List, Some, length, slice_get}
use Rattle.hs_base.specs.declared.context.Prev.{Prev}
use Rattle.hs_base.specs.Bits.{AreZero, has_word_bit}
use Rattle.hs_base.specs.Contexts.{prev_behind}
use Rattle.hs_engine.specs.Engines.{AreWakers, Meaning}
use Rattle.hs_lazy.specs.declared.parts.Member.{Member}
use Rattle.hs_lazy.specs.declared.parts.State.{State}
use Rattle.hs_lazy.specs.declared.parts.EndSet.{EndSet}
use Rattle.hs_lazy.specs.Runs.{TakesEntered}
use Rattle.hs_lazy.specs.Parts.{before_of, behind_of, ends_of, entry, next_of, part, set_of}

-- The members' engines are there, count as entered where they are told to be, have regions of their sizes, and are
-- woken by their wakers alone.
pub record AreMembersOf {E : Type 0} (meaning : E → Meaning) (engines : List E) (members : List Member) : Type 0 where
  pub there : (k : ℕ) (m : Member) → slice_get members k ≡ Some m → m.engine < length engines
  pub listed : (k : ℕ) (m : Member) (e : E) → slice_get members k ≡ Some m → slice_get engines m.engine ≡ Some e →
      (meaning e).always ≡ false
  pub sized : (k : ℕ) (m : Member) (e : E) → slice_get members k ≡ Some m → slice_get engines m.engine ≡ Some e →
      m.start + (meaning e).width ≡ m.end
  pub woken : (k : ℕ) (m : Member) (e : E) → slice_get members k ≡ Some m → slice_get engines m.engine ≡ Some e →
      AreWakers (meaning e) m.wakers

-- A byte leads each member that wasn't given up from its region in the one state to that in the other, and leaves it
-- as told.
abbrev pub TakeEntered : {E : Type 0} → (E → Meaning) → (engines : List E) (members : List Member) (old : State)
    (new : List ℕ) (byte : ℕ) (before behind : ℕ → Bool) → Type 0
TakeEntered {E = E} meaning engines members old new byte before behind =
    (k : ℕ) (m : Member) (e : E) → slice_get members k ≡ Some m → slice_get engines m.engine ≡ Some e →
    m.is_dropped ≡ false →
    TakesEntered (meaning e) (part old.image m) (part new m) old.prev byte
    (record { before = before k; behind = behind k })

-- The members without a bit that weren't given up have taken the byte so.
abbrev pub HaveTaken : {E : Type 0} → (E → Meaning) → (engines : List E) (members : List Member) (old : State)
    (new : List ℕ) (byte : ℕ) (asked : List ℕ) (ends : EndSet) → Type 0
HaveTaken {E = E} meaning engines members old new byte asked ends =
    (k : ℕ) (m : Member) (e : E) → slice_get members k ≡ Some m → slice_get engines m.engine ≡ Some e →
    m.is_dropped ≡ false →
    has_word_bit asked k ≡ false →
    TakesEntered (meaning e) (part old.image m) (part new m) old.prev byte
    (record { before = has_word_bit ends.before k; behind = has_word_bit ends.behind k })

-- A step of a state by a byte is what the engines do.
pub record IsStep {E : Type 0} (meaning : E → Meaning) (engines : List E) (members : List Member) (states : List State)
    (ends : List EndSet) (old : State) (byte step : ℕ) : Type 0 where
  pub next : State
  pub next_is : slice_get states (next_of step) ≡ Some next
  pub prev_is : next.prev ≡ prev_behind (Some byte)
  pub ends_within : ends_of step ≤ length ends
  pub takes : TakeEntered meaning engines members old next.image byte (before_of (set_of ends (ends_of step)))
      (behind_of (set_of ends (ends_of step)))

-- The step by a byte where nothing is live in any member and that stands before it.
pub record IsIdleStep {E : Type 0} (meaning : E → Meaning) (engines : List E) (members : List Member)
    (states : List State) (ends : List EndSet) (prev : Prev) (byte step : ℕ) : Type 0 where
  pub idle : State
  pub zero : (k : ℕ) (m : Member) → slice_get members k ≡ Some m → AreZero (part idle.image m)
  pub long : length idle.image ≡ 512
  pub prev_is : idle.prev ≡ prev
  pub is : IsStep meaning engines members states ends idle byte step

-- All known steps are.
pub record IsDfaSound {E : Type 0} (meaning : E → Meaning) (engines : List E) (members : List Member)
    (states : List State) (rows : List ℕ) (ends : List EndSet) : Type 0 where
  pub of : AreMembersOf meaning engines members
  pub steps : (s b : ℕ) (old : State) → slice_get states s ≡ Some old → b < 256 → (entry rows s b ≡ 0 → ⊥) →
      IsStep meaning engines members states ends old b (entry rows s b)
