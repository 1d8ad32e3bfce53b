-- A word turned round, by changing neighbours with each other.
use Rattle.std.specs.Prelude.{◌≡◌, ℕ, ◌+◌, ◌-◌, ◌<◌, ◌≤◌, true, false, if◌then◌else◌}
use Rattle.hs_bits.specs.WordBits.{word_bit}

-- The mask has the first one of each two neighbours of so many bits.
pub record AreFirst (count mask : ℕ) : Type 0 where
  pub first : (i : ℕ) → i < 64 → word_bit mask i ≡ true →
      (i + count < 64) × (count ≤ i → word_bit mask (i - count) ≡ false)
  pub second : (i : ℕ) → i < 64 → word_bit mask i ≡ false → (count ≤ i) × (word_bit mask (i - count) ≡ true)

-- the place with which that one is changed
abbrev pub neighbour : (count mask : ℕ) → ℕ → ℕ
neighbour count mask i = if word_bit mask i then i + count else i - count
