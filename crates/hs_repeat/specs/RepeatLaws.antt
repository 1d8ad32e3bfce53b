-- What a distance says of each history, over a byte and over a block.
use Rattle.std.specs.Prelude.{◌≡◌, ◌≢◌, ◌↔◌, ℕ, ◌+◌, ◌%◌, ◌/◌, ◌<◌, ◌≤◌, Bool, true, not, ◌==◌, List, [], ◌∷◌, ◌++◌}
use Rattle.std.specs.Prelude.{EachIndex, length, slice_index, take}
use Rattle.hs_base.specs.declared.byte_set.ByteSet.{ByteSet}
use Rattle.hs_base.specs.declared.context.Next.{Next}
use Rattle.hs_base.specs.ByteSets.{has, members}
use Rattle.hs_base.specs.Fields.{Leaves}
use Rattle.hs_base.specs.RepeatRows.{IsAway, IsLastDistance, distance_of}
use Rattle.hs_base.specs.Trees.{Tree}
use Rattle.hs_bits.specs.WordBits.{bits_of, one_later, word_bit}
use Rattle.hs_repeat.specs.RepeatBlocks.{TakesDistances, distance_behind}
use Rattle.hs_repeat.specs.Repeats.{IsLastOf}

-- The distance behind a byte is that of the stream with the byte.
abbrev pub LastDistanceMoves : Type 0
LastDistanceMoves =
    (set : ByteSet) (bound distance : ℕ) (u : List ℕ) (entered : List Bool) (byte : ℕ) (enters : Bool) →
    0 < bound →
    byte < 256 →
    length entered ≡ length u →
    IsLastDistance bound (IsAway (members set) u entered) distance →
    IsLastDistance bound (IsAway (members set) (u ++ byte ∷ []) (entered ++ enters ∷ []))
    (distance_behind bound distance enters (has set byte))

-- So are those in a block, each that of the stream up to its place.
abbrev pub LastDistancesAreOfHistories : Type 0
LastDistancesAreOfHistories =
    (set : ByteSet) (bound old new enters : ℕ) (bytes : List ℕ) (left : ℕ) →
    0 < bound →
    EachIndex bytes (λ k. slice_index bytes k < 256) →
    (takes : TakesDistances set bound old new enters bytes left) →
    (u : List ℕ) (entered : List Bool) →
    length entered ≡ length u →
    IsLastDistance bound (IsAway (members set) u entered) old →
    (i : ℕ) →
    i ≤ length bytes →
    IsLastDistance bound (IsAway (members set) (u ++ take i bytes) (entered ++ bits_of enters i)) (takes.distances i)

-- They stay within the bound, and none grows by more than one a byte.
pub record StayWithin (bound old : ℕ) (distances : ℕ → ℕ) (i : ℕ) : Type 0 where
  pub bounded : distances i ≤ bound
  pub within : distances i ≤ old + i

abbrev pub LastDistancesStayWithin : Type 0
LastDistancesStayWithin =
    (set : ByteSet) (bound old new enters : ℕ) (bytes : List ℕ) (left : ℕ) →
    0 < bound →
    old ≤ bound →
    (takes : TakesDistances set bound old new enters bytes left) →
    (i : ℕ) →
    i ≤ length bytes →
    StayWithin bound old takes.distances i

-- The repeat is left just where the distance isn't 0, whatever comes next.
abbrev pub LastIsLeftByDistance : Type 0
LastIsLeftByDistance =
    (set : ByteSet) (bound distance : ℕ) (tree : Tree) (u : List ℕ) (entered : List Bool) (next : Next) →
    IsLastOf set bound tree →
    IsLastDistance bound (IsAway (members set) u entered) distance →
    (distance ≢ 0) ↔ Leaves tree u entered next

-- The word of a block tells so at each place: behind a byte by its bit, and before it by the bit before, or by the old
-- distance before the first.
pub record TellsLeaving (tree : Tree) (u : List ℕ) (entered : List Bool) (bytes : List ℕ) (enters left old : ℕ) :
    Type 0 where
  pub before : (i : ℕ) (next : Next) →
      i < length bytes →
      (one_later (not (old == 0)) (word_bit left) i ≡ true) ↔
      Leaves tree (u ++ take i bytes) (entered ++ bits_of enters i) next
  pub behind : (i : ℕ) (next : Next) →
      i < length bytes →
      (word_bit left i ≡ true) ↔ Leaves tree (u ++ take (i + 1) bytes) (entered ++ bits_of enters (i + 1)) next

abbrev pub LastBlocksTellLeaving : Type 0
LastBlocksTellLeaving =
    (set : ByteSet) (bound old new enters : ℕ) (bytes : List ℕ) (left : ℕ) →
    0 < bound →
    EachIndex bytes (λ k. slice_index bytes k < 256) →
    TakesDistances set bound old new enters bytes left →
    (tree : Tree) (u : List ℕ) (entered : List Bool) →
    IsLastOf set bound tree →
    length entered ≡ length u →
    IsLastDistance bound (IsAway (members set) u entered) old →
    TellsLeaving tree u entered bytes enters left old

-- the row of two bytes of a distance
abbrev pub row_of : ℕ → List ℕ
row_of distance = distance % 256 ∷ distance / 256 ∷ []

-- Each distance has one row of two bytes: that row, which is the only one.
pub record IsRowOf (distance : ℕ) (row : List ℕ) : Type 0 where
  pub says : distance_of (row_of distance) ≡ distance
  pub only : length row ≡ 2 → EachIndex row (λ k. slice_index row k < 256) → distance_of row ≡ distance →
      row_of distance ≡ row

abbrev pub DistancesHaveRows : Type 0
DistancesHaveRows = (distance : ℕ) (row : List ℕ) → IsRowOf distance row
