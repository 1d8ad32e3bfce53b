-- What an automaton takes in, and what is silent in it.
use Rattle.std.specs.Prelude.{◌≡◌, ℕ, ◌+◌, false, [], ◌∷◌, ◌++◌, length}
use Rattle.hs_base.specs.declared.byte_set.ByteSet.{ByteSet}
use Rattle.hs_base.specs.Bits.{has_word_bit}
use Rattle.hs_lazy.specs.Parts.{AreFewer}
use Rattle.hs_lazy.specs.declared.parts.Member.{Member}
use Rattle.hs_lazy.specs.declared.parts.State.{State}
use Rattle.hs_lazy.specs.declared.parts.Run.{Run}
use Rattle.hs_lazy.specs.declared.dfa.LazyDfa.{LazyDfa}

-- An engine more was taken in, and no state is known.
pub record IsTakenIn (old new : LazyDfa) (number engine size : ℕ) (wakers : ByteSet) (place : ℕ) : Type 0 where
  pub member : Member
  pub members : new.members.items ≡ old.members.items ++ member ∷ []
  pub place_is : place ≡ length old.members.items
  pub states : new.states.items ≡ []
  pub number_is : member.number ≡ number
  pub engine_is : member.engine ≡ engine
  pub size_is : member.start + size ≡ member.end
  pub wakers_are : member.wakers ≡ wakers
  pub kept : member.is_dropped ≡ false

-- Members were given up and no state is known, or all is as before.
pub data IsShed (old new : LazyDfa) : Type 0 where
  stays : new ≡ old → IsShed old new
  sheds : AreFewer old.members.items new.members.items → new.states.items ≡ [] → IsShed old new

-- Nothing is live in the region of the member behind the chunk, and it has no bit of an end.
pub record IsAsleepIn (run : Run) (state : State) (k : ℕ) : Type 0 where
  pub live : has_word_bit state.live k ≡ false
  pub ended : has_word_bit run.ends.members k ≡ false
