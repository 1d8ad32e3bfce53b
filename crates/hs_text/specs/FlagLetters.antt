-- The flags of an expression, written as letters.
use Rattle.std.specs.Prelude.{◌≡◌, ℕ, ◌*◌, ◌<◌, ◌==◌, if◌then◌else◌, List, [], ◌∷◌, bit_or, codes}
use Rattle.hs_base.specs.Lists.{Each}

-- the bit of a letter among letters, of which the first has the bit given and each next one twice the bit before it; no
-- bit where the letter isn't among them
abbrev pub bit_among : List ℕ → ℕ → ℕ → ℕ
bit_among [] bit letter = 0
bit_among (first ∷ others) bit letter = if first == letter then bit else bit_among others (2 * bit) letter

-- the bit of the flag that a letter names
unfoldable pub flag_bit : ℕ → ℕ
flag_bit letter = bit_among (codes "ismHV8WPLCQ") 1 letter

-- the flags given and those of the letters
abbrev pub flags_from : ℕ → List ℕ → ℕ
flags_from flags [] = flags
flags_from flags (letter ∷ letters) = flags_from (bit_or flags (flag_bit letter)) letters

-- each letter names a flag, and these are the flags
pub record AreFlags (letters : List ℕ) (flags : ℕ) : Type 0 where
  pub each : Each (λ letter. 0 < flag_bit letter) letters
  pub named : flags_from 0 letters ≡ flags
