use Rattle.std.proofs.Common.{length, sym, subst}
use Rattle.hs_compile.specs.Databases.{layout_of, literals_in}
use Rattle.hs_layout.specs.Layouts.{laid_size}
use Rattle.hs_literals.specs.Held.{held}
use Rattle.hs_nodes.specs.Walks.{IsTableSound}
use Rattle.hs_nodes.specs.declared.graph.Graph.{Graph}
use Rattle.hs_rose.specs.PieceEngines.{piece_meaning}
use Rattle.hs_rose.specs.declared.engine.PieceEngine.{PieceEngine}
use Rattle.hs_scan.specs.NodeCaches.{IsNodeCacheOf}
use Rattle.hs_stream.proofs.cache.Cache.new.Goals as goal

pub new-requires-2-clause-sound : goal.new-requires-2-clause-sound
new-requires-2-clause-sound c =
    let db = c.args.db.now in
    (length (held (literals_in db)), laid_size (layout_of db), subst (λ (x : Graph PieceEngine). IsTableSound piece_meaning x.table (length (held (literals_in db))) (laid_size (layout_of db))) (sym c.graph.ensures.graph) c.graph.ensures.whole.is_of.sound.table)

pub returns : goal.returns
returns c = record {
  scratch = c.in_ok-new.ensures;
  states = subst (λ (x : Graph PieceEngine). IsNodeCacheOf piece_meaning x.table c.in_ok-new-2.field-0) c.graph.ensures.graph c.in_ok-new-2.ensures;
}
