-- How far the nearest entry of at most so many bytes of a set is away, over a byte and over a whole block.
use Rattle.std.specs.Prelude.{◌≡◌, ◌≢◌, ℕ, ◌+◌, ◌<◌, ◌≤◌, Bool, true, false, not, ◌==◌, nat_lt, List, length}
use Rattle.std.specs.Prelude.{slice_index, if◌then◌else◌}
use Rattle.hs_base.specs.declared.byte_set.ByteSet.{ByteSet}
use Rattle.hs_base.specs.ByteSets.{has}
use Rattle.hs_bits.specs.WordBits.{word_bit}

-- The distance behind a byte: 0 where none lives. Outside of the set none does. An entry that is made before the byte
-- is 1 away. An older one is one farther, and lost at the bound.
abbrev pub distance_behind : (bound distance : ℕ) (entered inside : Bool) → ℕ
distance_behind bound distance entered inside =
    if not inside then 0 else (if entered then 1
    else (if distance == 0 then 0 else (if nat_lt distance bound then distance + 1 else 0)))

-- The distance goes from the old one to the new one over the bytes, and the repeat is left behind those of `left`:
-- where the distance isn't 0. It is entered before the byte i where bit i of `enters` is set.
pub record TakesDistances (set : ByteSet) (bound old new enters : ℕ) (bytes : List ℕ) (left : ℕ) : Type 0 where
  -- the distance before each byte, and behind the last
  pub distances : ℕ → ℕ
  pub first : distances 0 ≡ old
  pub last : distances (length bytes) ≡ new
  pub moves : (i : ℕ) →
      i < length bytes →
      distances (i + 1) ≡ distance_behind bound (distances i) (word_bit enters i) (has set (slice_index bytes i))
  pub left_is : (i : ℕ) → i < length bytes → word_bit left i ≡ not (distances (i + 1) == 0)

-- What lives before a block at that distance goes on over so many of its first places: up to the bound, or to the first
-- place outside of the set.
pub record GoesOnOver (bound distance : ℕ) (inside : ℕ → Bool) (count : ℕ) : Type 0 where
  pub few : count ≤ 64
  pub rests : distance ≡ 0 → count ≡ 0
  pub within : distance + count ≤ bound
  pub members : (i : ℕ) → i < count → inside i ≡ true
  pub ends : distance ≢ 0 → count < 64 → distance + count < bound → inside count ≡ false

-- the last place before an end at which a test passes
pub record IsLastPlace (test : ℕ → Bool) (end place : ℕ) : Type 0 where
  pub before : place < end
  pub passes : test place ≡ true
  pub rest : (i : ℕ) → place < i → i < end → test i ≡ false
