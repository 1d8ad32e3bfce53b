-- Whole regions of the streams of a database, over which the runner goes: what bytes of a stream, or its end, make of
-- one.
use Rattle.std.specs.Prelude.{ℕ, ◌-◌, ◌<◌, List, ◌++◌}
use Rattle.hs_base.specs.Lists.{Each}
use Rattle.hs_base.specs.Regions.{Plan, IsRegion, region_offset}
use Rattle.hs_base.specs.Told.{Pair, IsTold, IsNew, IsLast}
use Rattle.hs_compile.specs.Databases.{Compiled, IsDatabaseOf, graph_of, layout_of}
use Rattle.hs_nodes.specs.WellRegions.{IsWellRegion}
use Rattle.hs_rose.specs.PieceEngines.{piece_meaning}
use Rattle.hs_stream.specs.Telling.{MayTell}

-- The region is that of the bytes u of a stream.
pub record IsScanned (plan : Plan) (u now : List ℕ) : Type 0 where
  pub bytes : Each (λ b. b < 256) u
  pub region : IsRegion plan u now

-- It is that of the stream u with the bytes behind it, and the pairs are the new reports of the bytes.
pub record IsScannedOn (plan : Plan) (u bytes region : List ℕ) (pairs : List Pair) : Type 0 where
  pub scanned : IsScanned plan (u ++ bytes) region
  pub reports : IsNew plan.patterns u bytes pairs

module _ (db : Compiled) where
  -- the bytes have the length of a region of the database, and its header and each field keep to their rules
  abbrev pub IsWholeRegionOf : List ℕ → Type 0
  IsWholeRegionOf region = IsWellRegion piece_meaning (graph_of db) (layout_of db) region

  -- The bytes lead from the one region to the other, and report these pairs: behind each history that has the one, the
  -- other is the region of the longer stream, and the pairs are the new reports.
  abbrev pub ScansTo : (old new bytes : List ℕ) → List Pair → Type 0
  ScansTo old new bytes pairs =
      (plan : Plan) (u : List ℕ) (told : List Pair) →
      IsDatabaseOf db plan →
      IsScanned plan u old →
      IsTold plan.patterns u told →
      IsScannedOn plan u bytes new pairs

  -- the pairs are the last reports of each stream that has the region
  abbrev pub ScansEnd : (region : List ℕ) → List Pair → Type 0
  ScansEnd region pairs =
      (plan : Plan) (u : List ℕ) → IsDatabaseOf db plan → IsScanned plan u region → IsLast plan.patterns u pairs

  -- The bytes led from the one region to the other and reported these pairs, whatever region that was.
  pub record MayScan (old new bytes : List ℕ) (pairs : List Pair) : Type 0 where
    pub scans : ScansTo old new bytes pairs
    pub tells : MayTell db (region_offset old) (region_offset new) pairs

  -- The end of the stream of a region reported these pairs, whatever region that was.
  pub record MayScanEnd (region : List ℕ) (pairs : List Pair) : Type 0 where
    pub ends : ScansEnd region pairs
    pub tells : MayTell db (region_offset region - 1) (region_offset region) pairs
