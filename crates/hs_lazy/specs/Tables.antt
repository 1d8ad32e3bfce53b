-- What the states of a cache are of.
use Rattle.std.specs.Prelude.{◌≡◌, ℕ, ◌<◌, false, not, ◌&&◌, if◌then◌else◌, ◌==◌}
use Rattle.std.specs.Prelude.{List, Option, Some, None, length, slice_get}
use Rattle.std.proofs.Math.ListN.{set}
use Rattle.hs_base.specs.declared.byte_set.ByteSet.{ByteSet}
use Rattle.hs_engine.specs.Engines.{Meaning}
use Rattle.hs_lazy.specs.Sound.{IsDfaSound}
use Rattle.hs_lazy.specs.Members.{IsTakenIn}
use Rattle.hs_lazy.specs.declared.cache.Dfas.{Dfas}
use Rattle.hs_lazy.specs.declared.cache.Place.{Place}
use Rattle.hs_lazy.specs.declared.dfa.LazyDfa.{LazyDfa}
use Rattle.hs_lazy.specs.declared.parts.Member.{Member}

-- the member of that place, if it is there
abbrev pub member_in : Option LazyDfa → ℕ → Option Member
member_in None i = None
member_in (Some dfa) i = slice_get dfa.members.items i

abbrev pub member_by : List LazyDfa → Option Place → Option Member
member_by list None = None
member_by list (Some p) = member_in (slice_get list p.dfa) p.member

-- the place of that number, if it has one
abbrev pub place_in : Option (Option Place) → Option Place
place_in None = None
place_in (Some place) = place

abbrev pub place_for : Dfas → ℕ → Option Place
place_for d k = place_in (slice_get d.places.items k)

-- the member, if it is of that number and wasn't given up
abbrev pub own_member : ℕ → Option Member → Option Member
own_member k None = None
own_member k (Some member) = if (member.number == k) && not member.is_dropped then Some member else None

abbrev pub member_of : Dfas → ℕ → Option Member
member_of d k = own_member k (member_by d.list.items (place_for d k))

abbrev pub engine_in : Option Member → Option ℕ
engine_in None = None
engine_in (Some member) = Some member.engine

-- the engine that runs for that number, if one does
unfoldable pub engine_at : Dfas → ℕ → Option ℕ
engine_at d k = engine_in (member_of d k)

-- all known steps are what the engines do
abbrev pub AreAllSound : {E : Type 0} → (E → Meaning) → (engines : List E) → List LazyDfa → Type 0
AreAllSound meaning engines list =
    (i : ℕ) (dfa : LazyDfa) → slice_get list i ≡ Some dfa →
    IsDfaSound meaning engines dfa.members.items dfa.states.items dfa.rows.items dfa.ends.items

-- One automaton more runs for the number, or all is as before.
pub data IsPut (old new : Dfas) (number engine size : ℕ) (wakers : ByteSet) : Type 0 where
  stays : new.list.items ≡ old.list.items → new.places ≡ old.places → IsPut old new number engine size wakers
  is_put :
      (at member : ℕ) (before behind : LazyDfa) →
      slice_get old.list.items at ≡ Some before →
      new.list.items ≡ set old.list.items at behind →
      new.places.items ≡ set old.places.items number (Some (record { dfa = at; member = member })) →
      number < length old.places.items →
      IsTakenIn before behind number engine size wakers member →
      IsPut old new number engine size wakers

-- The engines of the numbers are there, and count as entered where they are told to be; all steps that are known are
-- what the engines do.
pub record AreDfasOf {E : Type 0} (meaning : E → Meaning) (engines : List E) (d : Dfas) : Type 0 where
  pub there : (k n : ℕ) → engine_at d k ≡ Some n → n < length engines
  pub listed : (k n : ℕ) (e : E) → engine_at d k ≡ Some n → slice_get engines n ≡ Some e → (meaning e).always ≡ false
  pub sound : AreAllSound meaning engines d.list.items
