-- What the parts of an automaton are, and how its tables are read.
use Rattle.std.specs.Prelude.{◌≡◌, ℕ, zero, suc, ◌+◌, ◌*◌, ◌/◌, ◌%◌, ◌-◌, ◌<◌, ◌≤◌, Bool, false}
use Rattle.std.specs.Prelude.{List, Option, Some, None, length, slice_get, slice_index, slice_range}
use Rattle.hs_base.specs.declared.context.Prev.{Prev}
use Rattle.hs_base.specs.Bits.{AreZero, has_word_bit}
use Rattle.hs_lazy.specs.declared.parts.Member.{Member}
use Rattle.hs_lazy.specs.declared.parts.State.{State}
use Rattle.hs_lazy.specs.declared.parts.EndSet.{EndSet}

-- the region of a member in an image
abbrev pub part : List ℕ → Member → List ℕ
part image m = slice_range image m.start m.end

-- the regions of the members lie one behind the other, within an image
pub record AreMembersApart (members : List Member) : Type 0 where
  pub rising : (k : ℕ) (m : Member) → slice_get members k ≡ Some m → m.start ≤ m.end
  pub within : (k : ℕ) (m : Member) → slice_get members k ≡ Some m → m.end ≤ 512
  pub in_turn : (j k : ℕ) (a b : Member) → j < k → slice_get members j ≡ Some a → slice_get members k ≡ Some b →
      a.end ≤ b.start

-- A member without its bit has nothing live.
abbrev pub IsLive : (members : List Member) (image live : List ℕ) → Type 0
IsLive members image live =
    (k : ℕ) (m : Member) → slice_get members k ≡ Some m → has_word_bit live k ≡ false → AreZero (part image m)

-- Each state has an image and bits of their sizes, by which a member without its bit has nothing live.
pub record IsStateWhole (members : List Member) (st : State) : Type 0 where
  pub image_len : length st.image ≡ 512
  pub live_len : length st.live ≡ 4
  pub live : IsLive members st.image st.live

abbrev pub AreLive : (members : List Member) (states : List State) → Type 0
AreLive members states = (s : ℕ) (st : State) → slice_get states s ≡ Some st → IsStateWhole members st

-- each byte of a member's region is told to be that member's
abbrev pub AreOwned : (members : List Member) (owners : List ℕ) → Type 0
AreOwned members owners =
    (k i : ℕ) (m : Member) → slice_get members k ≡ Some m → m.start ≤ i → i < m.end → slice_index owners i ≡ k

-- Of the first so many bytes each whose owner has no bit is 0.
abbrev pub AreOwnersLive : (owners image live : List ℕ) (count : ℕ) → Type 0
AreOwnersLive owners image live count =
    (i : ℕ) → i < count → has_word_bit live (slice_index owners i) ≡ false → slice_index image i ≡ 0

-- the state of that number has nothing live in any member, and that stands before the next byte
pub record IsIdleState (members : List Member) (states : List State) (s : ℕ) (prev : Prev) : Type 0 where
  pub state : State
  pub is : slice_get states s ≡ Some state
  pub whole : IsStateWhole members state
  pub zero : (k : ℕ) (m : Member) → slice_get members k ≡ Some m → AreZero (part state.image m)
  pub prev_is : state.prev ≡ prev

-- Each set of ends has a bit for each member.
pub record IsSetWhole (set : EndSet) : Type 0 where
  pub before_len : length set.before ≡ 4
  pub behind_len : length set.behind ≡ 4

abbrev pub AreSetsWhole : (sets : List EndSet) → Type 0
AreSetsWhole sets = (n : ℕ) (set : EndSet) → slice_get sets n ≡ Some set → IsSetWhole set

-- the step of a state by a byte: 0 where it isn't known
abbrev pub entry : (rows : List ℕ) (s b : ℕ) → ℕ
entry rows s b = slice_index rows (256 * s + b)

-- the state that a step leads to
abbrev pub next_of : ℕ → ℕ
next_of step = step % 65536 - 1

-- the number of the set of ends of a step: 0 for none
abbrev pub ends_of : ℕ → ℕ
ends_of step = step / 65536

-- each known step leads to one of so many states
abbrev pub AreLeading : (rows : List ℕ) (count : ℕ) → Type 0
AreLeading rows count =
    (k : ℕ) → (slice_index rows k ≡ 0 → ⊥) → (0 < slice_index rows k % 65536) × (slice_index rows k % 65536 ≤ count)

-- no step of a state from there on is known
abbrev pub AreUnknownFrom : (rows : List ℕ) (count : ℕ) → Type 0
AreUnknownFrom rows count = (k : ℕ) → 256 * count ≤ k → slice_index rows k ≡ 0

-- the set of ends of that number
abbrev pub set_of : List EndSet → ℕ → Option EndSet
set_of sets zero = None
set_of sets (suc n) = slice_get sets n

abbrev pub before_of : Option EndSet → ℕ → Bool
before_of None k = false
before_of (Some set) k = has_word_bit set.before k

abbrev pub behind_of : Option EndSet → ℕ → Bool
behind_of None k = false
behind_of (Some set) k = has_word_bit set.behind k

-- these states are there still
abbrev pub AreStillThere : {A : Type 0} → (old new : List A) → Type 0
AreStillThere {A = A} old new = (i : ℕ) (x : A) → slice_get old i ≡ Some x → slice_get new i ≡ Some x

-- the state of that number has that image, and that stands before the next byte
pub record IsState (states : List State) (s : ℕ) (image : List ℕ) (prev : Prev) : Type 0 where
  pub state : State
  pub is : slice_get states s ≡ Some state
  pub image_is : state.image ≡ image
  pub prev_is : state.prev ≡ prev

-- known steps stay
abbrev pub AreStepsKept : (old new : List ℕ) → Type 0
AreStepsKept old new = (k : ℕ) → (slice_index old k ≡ 0 → ⊥) → slice_index new k ≡ slice_index old k

-- the step is known, and that
pub record IsStepMade (rows : List ℕ) (s b step : ℕ) : Type 0 where
  pub is : step ≡ entry rows s b
  pub known : step ≡ 0 → ⊥

-- one of two members lies before the other
pub data IsBeside : Member → Member → Type 0 where
  before_it : {member other : Member} → other.end ≤ member.start → IsBeside member other
  behind_it : {member other : Member} → member.end ≤ other.start → IsBeside member other

-- the step leads to that state, with the set of ends of that number
pub record IsStepTo (step next ends : ℕ) : Type 0 where
  pub known : step ≡ 0 → ⊥
  pub next_is : next_of step ≡ next
  pub ends_is : ends_of step ≡ ends

-- The same member, which may have been given up.
pub record IsSameMember (old new : Member) : Type 0 where
  pub number_is : new.number ≡ old.number
  pub engine_is : new.engine ≡ old.engine
  pub start_is : new.start ≡ old.start
  pub end_is : new.end ≡ old.end
  pub wakers_are : new.wakers ≡ old.wakers
  pub kept : new.is_dropped ≡ false → old.is_dropped ≡ false

-- The same members, of which some may have been given up.
abbrev pub AreFewer : (old new : List Member) → Type 0
AreFewer old new =
    (k : ℕ) (m : Member) → slice_get new k ≡ Some m →
    (before : Member) × (slice_get old k ≡ Some before) × IsSameMember before m
