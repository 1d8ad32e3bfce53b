-- Numbers in decimal digits. Zeros may lead.
use Rattle.std.specs.Prelude.{◌≡◌, ◌≢◌, ℕ, ◌+◌, ◌-◌, ◌*◌, ◌<◌, ◌≤◌, List, [], ◌∷◌, length}
use Rattle.hs_base.specs.Lists.{Each}

-- one of `0` to `9`
abbrev pub IsDigit : ℕ → Type 0
IsDigit b = (48 ≤ b) × (b ≤ 57)

-- the number that digits spell behind those of n
abbrev pub value_from : ℕ → List ℕ → ℕ
value_from n [] = n
value_from n (digit ∷ digits) = value_from (n * 10 + (digit - 48)) digits

-- from 1 to `most` digits spell the value, which is below the bound
pub record IsNumber (most bound : ℕ) (digits : List ℕ) (value : ℕ) : Type 0 where
  pub each : Each IsDigit digits
  pub some : digits ≢ []
  pub short : length digits ≤ most
  pub spelled : value_from 0 digits ≡ value
  pub small : value < bound
