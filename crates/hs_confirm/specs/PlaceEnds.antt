-- Which literals of all buckets that a mask leaves open end at an offset of a text.
use Rattle.std.specs.Prelude.{◌≡◌, ℕ, ◌<◌, ◌↔◌, List, Some, slice_get}
use Rattle.std.specs.Int.{bit_at}
use Rattle.hs_base.specs.Literals.{LiteralByte}
use Rattle.hs_base.specs.Lists.{IsMember, IsRising}
use Rattle.hs_base.specs.LiteralEnds.{EndsAt}

-- the bit of the literal's bucket is 0, and the literal ends there
pub record IsPlaceEnd (literals : List (List LiteralByte)) (buckets : List ℕ) (mask : ℕ) (text : List ℕ)
    (offset number : ℕ) : Type 0 where
  pub literal : List LiteralByte
  pub bucket : ℕ
  pub numbered : slice_get literals number ≡ Some literal
  pub filed : slice_get buckets number ≡ Some bucket
  pub unmasked : bit_at mask bucket ≡ 0
  pub ends : EndsAt literal text offset

-- the numbers of exactly these literals, rising
pub record ArePlaceEnds (literals : List (List LiteralByte)) (buckets : List ℕ) (mask : ℕ) (text : List ℕ) (offset : ℕ)
    (numbers : List ℕ) : Type 0 where
  pub rising : IsRising (λ m n. m < n) numbers
  pub exact : (number : ℕ) → IsMember number numbers ↔ IsPlaceEnd literals buckets mask text offset number
