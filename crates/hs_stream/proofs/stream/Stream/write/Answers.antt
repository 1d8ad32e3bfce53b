use Rattle.std.proofs.Common.{subst}
use Rattle.hs_nodes.specs.declared.graph.Graph.{Graph}
use Rattle.hs_rose.specs.PieceEngines.{piece_meaning}
use Rattle.hs_rose.specs.declared.engine.PieceEngine.{PieceEngine}
use Rattle.hs_scan.specs.NodeCaches.{IsNodeCacheOf}
use Rattle.hs_stream.proofs.stream.Stream.write.Goals as goal

pub write_by-requires-clause-states : goal.write_by-requires-clause-states
write_by-requires-clause-states g c = subst (λ (x : Graph PieceEngine). IsNodeCacheOf piece_meaning x.table c.none-states.result) c.graph.ensures.graph c.none-states.ensures
