-- What is kept of each identifier, in the bits of a region.
use Rattle.std.specs.Prelude.{◌≡◌, ◌⊎◌, ℕ, ◌+◌, ◌*◌, ◌<◌, ◌≤◌, true, List, length, take, Some, slice_get, slice_index}
use Rattle.hs_base.specs.Bits.{has_bit}
use Rattle.hs_base.specs.Regions.{fields_at, here_at, last_at, told_at}
use Rattle.hs_base.specs.Settling.{Kept}
use Rattle.hs_layout.specs.Layouts.{Laid}
use Rattle.hs_rose.specs.Identifiers.{singles_of}
use Rattle.hs_run.specs.declared.kept.Kept.{Kept as KeptOf}
use Rattle.hs_rose.specs.declared.identifiers.Identifier.{Identifier}

-- what is kept of an identifier, as plain data
abbrev pub plain_kept : KeptOf → Kept
plain_kept kept = record { told = kept.told; here = kept.here; last = kept.last }

-- how many single identifiers stand before that number
abbrev pub singles_before : List Identifier → ℕ → ℕ
singles_before identifiers i = length (singles_of (take i identifiers))

-- That is what the bits of the region tell of the identifier of that number, which is that one among the single ones.
pub record IsRead (l : Laid) (region : List ℕ) (x : Identifier) (i n : ℕ) (k : KeptOf) : Type 0 where
  pub told : x.single ≡ true → k.told ≡ has_bit region (8 * told_at + n)
  pub here : k.here ≡ has_bit region (8 * here_at l.singles + i)
  pub last : k.last ≡ has_bit region (8 * last_at l.singles l.identifiers + i)

-- and that of each identifier
abbrev pub AreRead : Laid → List ℕ → List Identifier → List KeptOf → Type 0
AreRead l region identifiers kept =
    (i : ℕ) (x : Identifier) (k : KeptOf) → slice_get identifiers i ≡ Some x → slice_get kept i ≡ Some k →
    IsRead l region x i (singles_before identifiers i) k

-- the layout has bits for these identifiers
pub record HasBits (l : Laid) (identifiers : List Identifier) : Type 0 where
  pub singles : l.singles ≡ length (singles_of identifiers)
  pub all : l.identifiers ≡ length identifiers

-- the bit stands for nothing
abbrev pub IsSpareBit : Laid → ℕ → Type 0
IsSpareBit l k =
    ((8 * told_at + l.singles ≤ k) × (k < 8 * here_at l.singles))
    ⊎ (((8 * here_at l.singles + l.identifiers ≤ k) × (k < 8 * last_at l.singles l.identifiers))
    ⊎ ((8 * last_at l.singles l.identifiers + l.identifiers ≤ k) × (k < 8 * fields_at l.singles l.identifiers)))

-- Only bits that stand for identifiers are other ones.
pub record AreBitsWritten (l : Laid) (old new : List ℕ) : Type 0 where
  pub len : length new ≡ length old
  pub bytes : (i : ℕ) → (i < told_at) ⊎ (fields_at l.singles l.identifiers ≤ i) → slice_index new i ≡ slice_index old i
  pub spare : (k : ℕ) → IsSpareBit l k → has_bit new k ≡ has_bit old k

-- Only the bits of that identifier are other ones.
pub record IsOneWritten (l : Laid) (x : Identifier) (i n : ℕ) (old new : List ℕ) : Type 0 where
  pub told : (k : ℕ) → k < l.singles → (x.single ≡ true → k ≡ n → ⊥) →
      has_bit new (8 * told_at + k) ≡ has_bit old (8 * told_at + k)
  pub here : (k : ℕ) → k < l.identifiers → (k ≡ i → ⊥) →
      has_bit new (8 * here_at l.singles + k) ≡ has_bit old (8 * here_at l.singles + k)
  pub last : (k : ℕ) → k < l.identifiers → (k ≡ i → ⊥) →
      has_bit new (8 * last_at l.singles l.identifiers + k) ≡ has_bit old (8 * last_at l.singles l.identifiers + k)
