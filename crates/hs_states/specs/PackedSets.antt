-- Sets of positions by bytes, one behind the other, and what stands before in each state.
use Rattle.std.specs.Prelude.{◌≡◌, ℕ, ◌*◌, ◌<◌, ◌&&◌, ◌++◌, List, drop, take, length, nat_lt, Some, slice_get}
use Rattle.hs_base.specs.declared.context.Prev.{Prev}
use Rattle.hs_base.specs.Bits.{has_bit, has_word_bit}
use Rattle.hs_base.specs.Lists.{Each}
use Rattle.hs_states.specs.declared.footing.Footing.{Footing}

-- so many bytes have the bits of the words
pub record IsPackedSet (width : ℕ) (words bytes : List ℕ) : Type 0 where
  pub size : length bytes ≡ width
  pub small : Each (λ b. b < 256) bytes
  pub bits : (k : ℕ) → has_bit bytes k ≡ (nat_lt k (8 * width) && has_word_bit words k)

-- such bytes were put behind the others
pub record IsSetPushed (width : ℕ) (words old new : List ℕ) : Type 0 where
  pub bytes : List ℕ
  pub is : new ≡ old ++ bytes
  pub set : IsPackedSet width words bytes

-- the set of that number
abbrev pub set_at : (width : ℕ) → List ℕ → ℕ → List ℕ
set_at width sets i = take width (drop (width * i) sets)

-- the sets of the first so many states
pub record AreSetsTo (width : ℕ) (states : List Footing) (count : ℕ) (sets : List ℕ) : Type 0 where
  pub len : length sets ≡ width * count
  pub each : (i : ℕ) (f : Footing) → i < count → slice_get states i ≡ Some f →
      IsPackedSet width f.positions (set_at width sets i)

-- what stands before in each of the first so many states
pub record ArePrevsTo (states : List Footing) (count : ℕ) (prevs : List Prev) : Type 0 where
  pub len : length prevs ≡ count
  pub each : (i : ℕ) (f : Footing) → i < count → slice_get states i ≡ Some f → slice_get prevs i ≡ Some f.prev
