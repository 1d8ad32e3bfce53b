-- What holds of regions.
use Rattle.std.specs.Prelude.{◌≡◌, ℕ, List, [], ◌++◌, length, drop, replicate}
use Rattle.hs_base.specs.Regions.{Plan, IsPlan, IsRegion, IsWellFormed, last_bytes, plan_size}

-- Patterns have one list of identifiers, and one of single ones.
abbrev pub PlansOnce : Type 0
PlansOnce =
    (x y : Plan) →
    x.patterns ≡ y.patterns →
    IsPlan x →
    IsPlan y →
    (x.identifiers ≡ y.identifiers) × (x.singles ≡ y.singles)

-- The region of the empty stream has no bit set.
abbrev pub RegionsBegin : Type 0
RegionsBegin = (plan : Plan) → IsRegion plan [] (replicate (plan_size plan) 0)

-- The region of a stream is well formed.
abbrev pub RegionsAreWellFormed : Type 0
RegionsAreWellFormed = (plan : Plan) (u region : List ℕ) → IsRegion plan u region → IsWellFormed plan region

-- A history has one region.
abbrev pub RegionsOnce : Type 0
RegionsOnce = (plan : Plan) (u xs ys : List ℕ) → IsRegion plan u xs → IsRegion plan u ys → xs ≡ ys

-- The last bytes, with more behind them, have the last ones of both at their end.
abbrev pub LastBytesFollow : Type 0
LastBytesFollow = (n : ℕ) (u v : List ℕ) → last_bytes n (u ++ v) ≡ drop (length v) (last_bytes n u ++ v)
