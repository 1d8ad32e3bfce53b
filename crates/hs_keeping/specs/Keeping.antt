-- What is kept of the identifiers of a stream, in the bits of its region and in rows of words.
use Rattle.std.specs.Prelude.{◌≡◌, ◌⊎◌, ℕ, ◌+◌, ◌*◌, ◌<◌, ◌≤◌, Bool, true, false, List, length, take, Some}
use Rattle.std.specs.Prelude.{slice_get, slice_index}
use Rattle.hs_base.specs.Bits.{has_bit, has_word_bit}
use Rattle.hs_base.specs.Regions.{fields_at, here_at, last_at, told_at}
use Rattle.hs_layout.specs.Layouts.{Laid}
use Rattle.hs_reports.specs.declared.identifier.Identifier.{Identifier}
use Rattle.hs_reports.specs.Identifiers.{singles_of}

-- how many single identifiers stand before that number
abbrev pub singles_before : List Identifier → ℕ → ℕ
singles_before identifiers p = length (singles_of (take p identifiers))

-- That is what the region's bits say of the identifier of that number, which is that one among the single ones.
pub record AreBitsRead (l : Laid) (region : List ℕ) (x : Identifier) (p n : ℕ) (told here : Bool) : Type 0 where
  pub told_is : x.single ≡ true → told ≡ has_bit region (8 * told_at + n)
  pub here_is : here ≡ has_bit region (8 * here_at l.singles + p)

-- The rows say it of each identifier.
abbrev pub AreRead : Laid → (region : List ℕ) → List Identifier → (told here : List ℕ) → Type 0
AreRead l region identifiers told here =
    (p : ℕ) (x : Identifier) → slice_get identifiers p ≡ Some x →
    AreBitsRead l region x p (singles_before identifiers p) (has_word_bit told p) (has_word_bit here p)

-- and the row of those that only the end would report
abbrev pub AreLast : Laid → (region : List ℕ) → List Identifier → (last : List ℕ) → Type 0
AreLast l region identifiers last =
    (p : ℕ) (x : Identifier) → slice_get identifiers p ≡ Some x →
    has_word_bit last p ≡ has_bit region (8 * last_at l.singles l.identifiers + p)

-- the bit stands for nothing
abbrev pub IsSpareBit : Laid → ℕ → Type 0
IsSpareBit l k =
    ((8 * told_at + l.singles ≤ k) × (k < 8 * here_at l.singles))
    ⊎ (((8 * here_at l.singles + l.identifiers ≤ k) × (k < 8 * last_at l.singles l.identifiers))
    ⊎ ((8 * last_at l.singles l.identifiers + l.identifiers ≤ k) × (k < 8 * fields_at l.singles l.identifiers)))

-- none that stands for nothing is set
abbrev pub AreSparesUnset : Laid → (region : List ℕ) → Type 0
AreSparesUnset l region = (k : ℕ) → IsSpareBit l k → has_bit region k ≡ false

-- the layout has bits for these identifiers
pub record HasBits (l : Laid) (identifiers : List Identifier) : Type 0 where
  pub singles : l.singles ≡ length (singles_of identifiers)
  pub all : l.identifiers ≡ length identifiers

-- Only bits that stand for identifiers are other ones.
pub record AreBitsWritten (l : Laid) (old new : List ℕ) : Type 0 where
  pub len : length new ≡ length old
  pub bytes : (i : ℕ) → (i < told_at) ⊎ (fields_at l.singles l.identifiers ≤ i) → slice_index new i ≡ slice_index old i
  pub spare : (k : ℕ) → IsSpareBit l k → has_bit new k ≡ has_bit old k

-- Only the bits of that identifier are other ones.
pub record IsOneWritten (l : Laid) (x : Identifier) (p n : ℕ) (old new : List ℕ) : Type 0 where
  pub told : (k : ℕ) → k < l.singles → (x.single ≡ true → k ≡ n → ⊥) →
      has_bit new (8 * told_at + k) ≡ has_bit old (8 * told_at + k)
  pub here : (k : ℕ) → k < l.identifiers → (k ≡ p → ⊥) →
      has_bit new (8 * here_at l.singles + k) ≡ has_bit old (8 * here_at l.singles + k)
  pub last : (k : ℕ) → k < l.identifiers → (k ≡ p → ⊥) →
      has_bit new (8 * last_at l.singles l.identifiers + k) ≡ has_bit old (8 * last_at l.singles l.identifiers + k)

-- The bits of all identifiers are those of the rows: of their pairs at the offset, and of those that wait for the end.
-- Only these are other ones.
pub record AreEndsWritten (l : Laid) (here last old new : List ℕ) : Type 0 where
  pub written : AreBitsWritten l old new
  pub here_is : (p : ℕ) → p < l.identifiers → has_bit new (8 * here_at l.singles + p) ≡ has_word_bit here p
  pub last_is : (p : ℕ) → p < l.identifiers →
      has_bit new (8 * last_at l.singles l.identifiers + p) ≡ has_word_bit last p
  pub told : (k : ℕ) → k < l.singles → has_bit new (8 * told_at + k) ≡ has_bit old (8 * told_at + k)
