-- Places of masks in their list: that of place j and super-character v is at j * 2 ^ width + v.
use Rattle.std.specs.Prelude.{◌≡◌, ◌↔◌, ℕ, ◌+◌, ◌*◌, ◌<◌, ◌≤◌, ◌^◌, List, length}
use Rattle.hs_base.specs.Literals.{LiteralByte}
use Rattle.hs_fdr_build.specs.Asking.{MayStand, StandsIn, IsAsked}
use Rattle.hs_fdr_build.specs.Clearing.{IsClear}

-- the literal reaches j places before its last byte, and a super-character that may stand there has its mask at that
-- place
pub record IsPlaceOf (width : ℕ) (literal : List LiteralByte) (j place : ℕ) : Type 0 where
  pub v : ℕ
  pub small : v < 2 ^ width
  pub at : place ≡ j * 2 ^ width + v
  pub reaches : j < length literal
  pub may : MayStand width literal j v

-- some literal of the bucket asks for the place, by a relation of literals to places
abbrev pub IsAskedBy : (List LiteralByte → ℕ → Type 0) → List (List LiteralByte) → List ℕ → (place bucket : ℕ) → Type 0
IsAskedBy Asks literals buckets place bucket =
    (literal : List LiteralByte) × StandsIn literals buckets bucket literal × Asks literal place

-- the literal asks for that place of the masks, by one of the places that it reaches
abbrev pub HasPlace : (width : ℕ) → List LiteralByte → ℕ → Type 0
HasPlace width literal place = (j : ℕ) × (j < 8) × IsPlaceOf width literal j place

-- the literal doesn't reach j places before its last byte
abbrev pub IsPast : List LiteralByte → ℕ → Type 0
IsPast literal j = length literal ≤ j

-- a bit is 0 exactly where a literal of its bucket asks for it
pub record AreMasksOf (width : ℕ) (literals : List (List LiteralByte)) (buckets masks : List ℕ) : Type 0 where
  pub each : (bucket j v : ℕ) → bucket < 8 → j < 8 → v < 2 ^ width →
      IsClear masks (j * 2 ^ width + v) bucket ↔ IsAsked width literals buckets bucket j v
