-- What is kept of the streams of a database: which bytes are that, and what bytes of a stream, or its end, make of it.
use Rattle.std.specs.Prelude.{ℕ, ◌<◌, List, ◌++◌}
use Rattle.hs_base.specs.Lists.{Each}
use Rattle.hs_base.specs.Regions.{Plan}
use Rattle.hs_base.specs.Told.{Pair, IsTold, IsNew, IsLast}
use Rattle.hs_compile.specs.Databases.{Compiled, IsDatabaseOf, IsWholeDatabase, graph_of, layout_of, packing_of}
use Rattle.hs_kept.specs.KeptRegions.{IsKeptRegion}
use Rattle.hs_regions.specs.KeptFaults.{IsKeptFault}
use Rattle.hs_regions.specs.Packed.{IsWellPacked}
use Rattle.hs_rose.specs.PieceEngines.{piece_meaning}

-- The bytes are what is kept of the bytes u of a stream.
pub record IsBehind (plan : Plan) (u now : List ℕ) : Type 0 where
  pub bytes : Each (λ b. b < 256) u
  pub region : IsKeptRegion plan u now

-- It is that of the stream u with the bytes behind it, and the pairs are the new reports of the bytes.
pub record IsLed (plan : Plan) (u bytes region : List ℕ) (pairs : List Pair) : Type 0 where
  pub behind : IsBehind plan (u ++ bytes) region
  pub reports : IsNew plan.patterns u bytes pairs

module _ (db : Compiled) where
  -- The bytes have the length of what the database keeps of a stream, each number in them is that of a state, and the
  -- region to which they are unpacked may be run.
  abbrev pub IsRegionOf : List ℕ → Type 0
  IsRegionOf kept = IsWellPacked piece_meaning (graph_of db) (layout_of db) (packing_of db) kept

  -- The first part of such bytes that breaks its rule begins at that byte, by each plan of the database, which has one.
  pub record IsFaultOf (kept : List ℕ) (place : ℕ) : Type 0 where
    pub whole : IsWholeDatabase db
    pub first : (plan : Plan) → IsDatabaseOf db plan → IsKeptFault plan kept place

  -- The bytes lead from what was kept to what is kept now, and report these pairs: behind each history of which the one
  -- is kept, the other is kept of the longer stream, and the pairs are the new reports.
  abbrev pub LeadsTo : (old new bytes : List ℕ) → List Pair → Type 0
  LeadsTo old new bytes pairs =
      (plan : Plan) (u : List ℕ) (told : List Pair) →
      IsDatabaseOf db plan →
      IsBehind plan u old →
      IsTold plan.patterns u told →
      IsLed plan u bytes new pairs

  -- the pairs are the last reports of each stream of which that is kept
  abbrev pub EndsWith : (region : List ℕ) → List Pair → Type 0
  EndsWith region pairs =
      (plan : Plan) (u : List ℕ) → IsDatabaseOf db plan → IsBehind plan u region → IsLast plan.patterns u pairs
