use Rattle.std.proofs.lemmas.Option.{none-some}
use Rattle.hs_scan.proofs.node_cache.NodeCache.none.Goals as goal

pub returns : goal.returns
returns g c = record {
  automata = c.no_cache.ensures;
  pool = λ n e there own is. absurd (none-some own is);
}
