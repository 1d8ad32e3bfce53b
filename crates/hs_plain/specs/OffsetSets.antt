-- Sets of offsets, and where a relation leads from one.
use Rattle.std.specs.Prelude.{◌≡◌, ℕ, ◌⊎◌, ◌↔◌, Bool, true, false, slice_index_or, vec_len}
use Rattle.hs_plain.specs.declared.offsets.Offsets.{Offsets}

-- how many offsets, from 0 on, the set is made of
abbrev pub room : Offsets → ℕ
room s = vec_len s.marks

-- whether an offset is a member
abbrev pub has : Offsets → ℕ → Bool
has s j = slice_index_or s.marks.items j false

-- The members of the second set are the offsets to which the relation leads from a member of the first.
pub record AreEnds (R : ℕ → ℕ → Type 0) (starts ends : Offsets) : Type 0 where
  pub alike : room ends ≡ room starts
  pub each : (j : ℕ) → (has ends j ≡ true) ↔ ((i : ℕ) × (has starts i ≡ true) × R i j)

-- The new set has the offsets with the property beside the members of the old one.
pub record AddsOffsets (Q : ℕ → Type 0) (old new : Offsets) : Type 0 where
  pub alike : room new ≡ room old
  pub each : (j : ℕ) → (has new j ≡ true) ↔ ((has old j ≡ true) ⊎ Q j)
