-- Which scratch serves the streams of a database.
use Rattle.std.specs.Prelude.{◌≡◌, ℕ, List, length}
use Rattle.hs_compile.specs.Databases.{Compiled, graph_of, literals_in, packing_of}
use Rattle.hs_kept.specs.Packing.{IsPackedOf, packed_size, unpacked, unpacked_size}
use Rattle.hs_kept.specs.declared.packing.Packing.{Packing}
use Rattle.hs_literals.specs.Held.{held}
use Rattle.hs_scan.specs.NodeCaches.{IsNodeCacheOf}
use Rattle.hs_scan.specs.Scratches.{ServesGraph}
use Rattle.hs_scan.specs.declared.node_cache.NodeCache.{NodeCache}
use Rattle.hs_scan.specs.declared.scratch.Scratch as scan
use Rattle.hs_rose.specs.PieceEngines.{piece_meaning}
use Rattle.hs_stream.specs.declared.scratch.Scratch.{Scratch}

-- By the packing a region is kept as it is.
pub record KeepsWhole (packing : Packing) : Type 0 where
  pub unpacks : (kept : List ℕ) → unpacked packing kept ≡ kept
  pub packs : (region : List ℕ) → length region ≡ unpacked_size packing → IsPackedOf packing region region
  pub sizes : packed_size packing ≡ unpacked_size packing

-- the room has as many nodes, identifiers and literals as the database
abbrev pub ServesDatabase : Compiled → scan.Scratch → Type 0
ServesDatabase db room = ServesGraph (graph_of db) (length (held (literals_in db))) room

-- the states are of the engines of the database
abbrev pub AreStatesOf : Compiled → NodeCache → Type 0
AreStatesOf db states = IsNodeCacheOf piece_meaning (graph_of db).table states

-- It has the room that the graph of the database takes, and a region of it.
pub record IsScratchOf (db : Compiled) (scratch : Scratch) : Type 0 where
  pub room : ServesDatabase db scratch.room
  pub region : length scratch.region.items ≡ unpacked_size (packing_of db)
