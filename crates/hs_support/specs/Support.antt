-- Bits that are set and not supported.
use Rattle.std.specs.Prelude.{◌≡◌, ℕ, ◌+◌, ◌^◌, ◌<◌}
use Rattle.std.specs.Int.{bit_at}

-- the flags that are supported, a bit each: CASELESS, DOTALL, MULTILINE, SINGLEMATCH, ALLOWEMPTY and UTF8 (Hyperscan
-- Developer's Reference Guide, "Compiling Patterns")
abbrev pub supported_flags : ℕ
supported_flags = 1 + 2 + 4 + 8 + 16 + 32

-- the extended parameters that are supported, a bit each: the least and the greatest end offset (Hyperscan Developer's
-- Reference Guide, `hs_expr_ext_t`)
abbrev pub supported_parameters : ℕ
supported_parameters = 1 + 2

-- the bit at the place is set, and isn't supported
abbrev pub IsOutside : (supported bits place : ℕ) → Type 0
IsOutside supported bits place = (bit_at bits place ≡ 1) × (bit_at supported place ≡ 0)

-- That is the least such bit, as a number of one bit.
pub record IsLeastOutside (supported bits bit : ℕ) : Type 0 where
  pub place : ℕ
  pub is : bit ≡ 2 ^ place
  pub outside : IsOutside supported bits place
  pub least : (k : ℕ) → k < place → IsOutside supported bits k → ⊥
