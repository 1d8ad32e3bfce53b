-- What is loaded into a cache before a chunk.
use Rattle.std.specs.Prelude.{◌≡◌, ℕ, ◌<◌, true, false, List, Some, slice_get}
use Rattle.hs_base.specs.Bits.{AreZero}
use Rattle.hs_lazy.specs.Caches.{loaded}
use Rattle.hs_lazy.specs.Tables.{engine_at}
use Rattle.hs_lazy.specs.declared.cache.Cache.{Cache}
use Rattle.hs_bits.specs.Marks.{is_marked}
use Rattle.hs_nodes.specs.Walks.{node_part}
use Rattle.hs_nodes.specs.declared.table.Node.{Node}
use Rattle.hs_nodes.specs.declared.table.NodeTable.{NodeTable}

-- nothing is loaded of any node
abbrev pub AreUnloaded : Cache → Type 0
AreUnloaded cache = (k : ℕ) → AreZero (loaded cache k)

-- Of the first so many nodes what is kept of the marked ones is loaded, and nothing of all others.
pub record IsLoadedTo {E : Type 0} (table : NodeTable E) (region marks : List ℕ) (cache : Cache) (n : ℕ) : Type 0 where
  pub marked : (k number : ℕ) (node : Node) →
      k < n →
      is_marked marks k ≡ true →
      engine_at cache.dfas k ≡ Some number →
      slice_get table.nodes.items k ≡ Some node →
      loaded cache k ≡ node_part region node
  pub others : (k : ℕ) → is_marked marks k ≡ false → AreZero (loaded cache k)
