-- The entries of a repeat of one set that still live, and what the rows of repeats tell of them.
use Rattle.std.specs.Prelude.{◌≡◌, ◌↔◌, ℕ, ◌+◌, ◌*◌, ◌%◌, ◌<◌, ◌≤◌, min, Bool, true, false, List, length, Some}
use Rattle.std.specs.Prelude.{slice_get, slice_index}
use Rattle.hs_base.specs.Bits.{has_bit}
use Rattle.hs_base.specs.Spans.{IsByteOf}
use Rattle.hs_base.specs.Reports.{IsLeast}

-- The repeat was entered at the offset q, and each byte from there to the end of u is in the set.
pub record IsUnbroken (set : List Bool) (u : List ℕ) (entered : List Bool) (q : ℕ) : Type 0 where
  pub is_entered : slice_get entered q ≡ Some true
  pub before : q < length u
  pub inside : (i : ℕ) → q ≤ i → i < length u → IsByteOf set u i

-- so many bytes before the end of u stands such an entry
pub record IsAway (set : List Bool) (u : List ℕ) (entered : List Bool) (distance : ℕ) : Type 0 where
  pub from : ℕ
  pub ends : from + distance ≡ length u
  pub unbroken : IsUnbroken set u entered from

-- the number in two bytes, the low one first
abbrev pub distance_of : List ℕ → ℕ
distance_of bytes = slice_index bytes 0 + 256 * slice_index bytes 1

-- the greatest number with the property
pub record IsGreatest (Q : ℕ → Type 0) (n : ℕ) : Type 0 where
  pub holds : Q n
  pub greatest : (m : ℕ) → Q m → m ≤ n

-- Where at least n bytes are asked for, of entries at the distances with the property Away: 0 of none, or else the
-- lesser of n and the greatest distance.
pub data IsFirstDistance (n : ℕ) (Away : ℕ → Type 0) (value : ℕ) : Type 0 where
  none : value ≡ 0 → ((d : ℕ) → Away d → ⊥) → IsFirstDistance n Away value
  some : (d : ℕ) → IsGreatest Away d → value ≡ min n d → IsFirstDistance n Away value

-- Where at most m bytes are allowed: 0 where no entry is at most m away, or else the least distance.
pub data IsLastDistance (m : ℕ) (Away : ℕ → Type 0) (value : ℕ) : Type 0 where
  none : value ≡ 0 → ((d : ℕ) → Away d → d ≤ m → ⊥) → IsLastDistance m Away value
  some : IsLeast Away value → value ≤ m → IsLastDistance m Away value

-- The row of at least n bytes of a set.
abbrev pub IsFirstRow : (n : ℕ) (set : List Bool) (bytes u : List ℕ) (entered : List Bool) → Type 0
IsFirstRow n set bytes u entered = IsFirstDistance n (IsAway set u entered) (distance_of bytes)

-- The row of at most m bytes of a set.
abbrev pub IsLastRow : (m : ℕ) (set : List Bool) (bytes u : List ℕ) (entered : List Bool) → Type 0
IsLastRow m set bytes u entered = IsLastDistance m (IsAway set u entered) (distance_of bytes)

-- The bit k stands for an entry at most m away, whose offset has the remainder k.
pub record IsHeld (m : ℕ) (set : List Bool) (u : List ℕ) (entered : List Bool) (k : ℕ) : Type 0 where
  pub from : ℕ
  pub unbroken : IsUnbroken set u entered from
  pub recent : length u ≤ from + m
  pub place : from % m ≡ k

-- The row of bits of at most m bytes of a set: just the bits of such entries are set.
abbrev pub IsRingRow : (m : ℕ) (set : List Bool) (bytes u : List ℕ) (entered : List Bool) → Type 0
IsRingRow m set bytes u entered = (k : ℕ) → (has_bit bytes k ≡ true) ↔ IsHeld m set u entered k

-- a distance may stand in a row at that offset: it is at most the bound of the repeat, and not beyond the stream's
-- start
pub record IsDistanceAt (bound value at : ℕ) : Type 0 where
  pub bounded : value ≤ bound
  pub within : value ≤ at

-- Bits may stand in a row at that offset: none from m on, nor, before the first round is full, from the offset on.
pub record IsRingAt (m : ℕ) (bytes : List ℕ) (at : ℕ) : Type 0 where
  pub spare : (k : ℕ) → m ≤ k → has_bit bytes k ≡ false
  pub early : (k : ℕ) → at ≤ k → has_bit bytes k ≡ false
