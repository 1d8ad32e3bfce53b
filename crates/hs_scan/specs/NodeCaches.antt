-- What was seen of the nodes of a graph.
use Rattle.hs_engine.specs.Engines.{Meaning}
use Rattle.hs_nodes.specs.Cached.{IsCacheOf}
use Rattle.hs_nodes.specs.Pooled.{ArePooled}
use Rattle.hs_nodes.specs.declared.table.NodeTable.{NodeTable}
use Rattle.hs_scan.specs.declared.node_cache.NodeCache.{NodeCache}

-- It is of the nodes of the table: nothing is kept but what their engines do.
pub record IsNodeCacheOf {E : Type 0} (meaning : E → Meaning) (table : NodeTable E) (cache : NodeCache) : Type 0 where
  pub automata : IsCacheOf meaning table cache.automata
  pub pool : ArePooled meaning table.engines.items cache.pool
