-- Which literals of all buckets that a mask leaves open end at an offset of a text, in any order.
use Rattle.std.specs.Prelude.{ℕ, ◌↔◌, List}
use Rattle.hs_base.specs.Literals.{LiteralByte}
use Rattle.hs_base.specs.Lists.{IsMember}
use Rattle.hs_confirm.specs.PlaceEnds.{IsPlaceEnd}

-- the numbers of exactly these literals
abbrev pub AreOpenEnds : List (List LiteralByte) → (buckets : List ℕ) → (mask : ℕ) → List ℕ → (offset : ℕ) →
    (numbers : List ℕ) → Type 0
AreOpenEnds literals buckets mask text offset numbers =
    (number : ℕ) → IsMember number numbers ↔ IsPlaceEnd literals buckets mask text offset number
