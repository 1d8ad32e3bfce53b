-- The lowest bit of a word that is set, and those behind it.
use Rattle.std.specs.Prelude.{◌≡◌, ℕ, ◌<◌, ◌↔◌}
use Rattle.std.specs.Int.{bit_at}

-- the bit of that place is set, and none before it
pub record IsLowestBit (word place : ℕ) : Type 0 where
  pub is : bit_at word place ≡ 1
  pub lowest : (i : ℕ) → i < place → bit_at word i ≡ 0

-- the bits of the word that are behind a place, and no other
abbrev pub AreBitsBehind : (word place rest : ℕ) → Type 0
AreBitsBehind word place rest = (i : ℕ) → (bit_at rest i ≡ 1) ↔ ((place < i) × (bit_at word i ≡ 1))
