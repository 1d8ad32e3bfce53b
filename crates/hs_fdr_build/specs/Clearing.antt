-- Bits of a list of masks that are made 0.
use Rattle.std.specs.Prelude.{◌≡◌, ◌↔◌, ℕ, ◌<◌, ◌⊎◌, List, length, slice_index}
use Rattle.std.specs.Int.{bit_at}

-- the bit of a bucket is 0 in the mask at a place
abbrev pub IsClear : List ℕ → (at bucket : ℕ) → Type 0
IsClear masks at bucket = bit_at (slice_index masks at) bucket ≡ 0

-- of the masks, exactly those bits more are 0
pub record Clears (Q : ℕ → ℕ → Type 0) (old new : List ℕ) : Type 0 where
  pub alike : length new ≡ length old
  pub each : (at bucket : ℕ) → at < length old → bucket < 8 →
      IsClear new at bucket ↔ (IsClear old at bucket ⊎ Q at bucket)
