-- The first fault of a header.
use Rattle.std.specs.Prelude.{◌≡◌, ℕ, ◌≤◌, ◌<◌, List}
use Rattle.hs_base.specs.Offsets.{greatest_offset}
use Rattle.hs_base.specs.Regions.{history_at, told_at, here_at, last_at, fields_at, region_offset, AreSpare}
use Rattle.hs_base.specs.Regions.{HasNoEarlyByte}

-- The first field of the header that breaks its rule begins at that byte: the offset is too great, the history has a
-- byte before the stream's first, or a bit is set that stands for nothing.
pub data IsHeaderFault (singles identifiers : ℕ) (region : List ℕ) (at : ℕ) : Type 0 where
  offset : at ≡ 0 → greatest_offset < region_offset region → IsHeaderFault singles identifiers region at
  history : at ≡ history_at →
      region_offset region ≤ greatest_offset →
      (HasNoEarlyByte region → ⊥) →
      IsHeaderFault singles identifiers region at
  told : at ≡ told_at →
      region_offset region ≤ greatest_offset →
      HasNoEarlyByte region →
      (AreSpare region told_at singles (here_at singles) → ⊥) →
      IsHeaderFault singles identifiers region at
  here : at ≡ here_at singles →
      region_offset region ≤ greatest_offset →
      HasNoEarlyByte region →
      AreSpare region told_at singles (here_at singles) →
      (AreSpare region (here_at singles) identifiers (last_at singles identifiers) → ⊥) →
      IsHeaderFault singles identifiers region at
  last : at ≡ last_at singles identifiers →
      region_offset region ≤ greatest_offset →
      HasNoEarlyByte region →
      AreSpare region told_at singles (here_at singles) →
      AreSpare region (here_at singles) identifiers (last_at singles identifiers) →
      (AreSpare region (last_at singles identifiers) identifiers (fields_at singles identifiers) → ⊥) →
      IsHeaderFault singles identifiers region at
