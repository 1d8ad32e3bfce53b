-- What holds of what streams keep.
use Rattle.std.specs.Prelude.{◌≡◌, ℕ, ◌≤◌, List, [], replicate}
use Rattle.hs_base.specs.Regions.{Plan, IsRegion, plan_size}
use Rattle.hs_kept.specs.KeptRegions.{AreKeptForms, IsKeptRegion, IsKeptSize, IsWellKept, KeptForm}

-- The pieces of a plan are kept in one way.
abbrev pub KeptFormsOnce : Type 0
KeptFormsOnce = (plan : Plan) (xs ys : List KeptForm) → AreKeptForms plan xs → AreKeptForms plan ys → xs ≡ ys

-- A plan's regions are kept in one number of bytes.
abbrev pub KeptSizesOnce : Type 0
KeptSizesOnce = (plan : Plan) (m n : ℕ) → IsKeptSize plan m → IsKeptSize plan n → m ≡ n

-- What is kept takes no more bytes than a region.
abbrev pub KeptIsNoLarger : Type 0
KeptIsNoLarger = (plan : Plan) (size : ℕ) → IsKeptSize plan size → size ≤ plan_size plan

-- Of the empty stream no bit is set.
abbrev pub KeptRegionsBegin : Type 0
KeptRegionsBegin = (plan : Plan) (size : ℕ) → IsKeptSize plan size → IsKeptRegion plan [] (replicate size 0)

-- What is kept of a stream is well formed.
abbrev pub KeptRegionsAreWell : Type 0
KeptRegionsAreWell = (plan : Plan) (u region : List ℕ) → IsKeptRegion plan u region → IsWellKept plan region

-- One list of bytes is kept of a history.
abbrev pub KeptRegionsOnce : Type 0
KeptRegionsOnce =
    (plan : Plan) (u xs ys : List ℕ) → IsKeptRegion plan u xs → IsKeptRegion plan u ys → xs ≡ ys

-- Histories of which the same is kept have the same region: so they go on alike.
abbrev pub SameKeptSameRegion : Type 0
SameKeptSameRegion =
    (plan : Plan) (u v kept region : List ℕ) → IsKeptRegion plan u kept → IsKeptRegion plan v kept →
    IsRegion plan u region → IsRegion plan v region
