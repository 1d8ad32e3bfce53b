-- Which literals of a bucket end at an offset of a text: their numbers, counted from 0 in the list of all literals.
use Rattle.std.specs.Prelude.{◌≡◌, ℕ, ◌<◌, ◌↔◌, List, Some, slice_get}
use Rattle.hs_base.specs.Literals.{LiteralByte}
use Rattle.hs_base.specs.Lists.{IsMember, IsRising}
use Rattle.hs_base.specs.LiteralEnds.{EndsAt}

-- the literal of that number is in the bucket and ends there
pub record IsBucketEnd (literals : List (List LiteralByte)) (buckets : List ℕ) (bucket : ℕ) (text : List ℕ)
    (offset number : ℕ) : Type 0 where
  pub literal : List LiteralByte
  pub numbered : slice_get literals number ≡ Some literal
  pub filed : slice_get buckets number ≡ Some bucket
  pub ends : EndsAt literal text offset

-- the numbers of exactly these literals, rising
pub record AreBucketEnds (literals : List (List LiteralByte)) (buckets : List ℕ) (bucket : ℕ) (text : List ℕ)
    (offset : ℕ) (numbers : List ℕ) : Type 0 where
  pub rising : IsRising (λ m n. m < n) numbers
  pub exact : (number : ℕ) → IsMember number numbers ↔ IsBucketEnd literals buckets bucket text offset number
