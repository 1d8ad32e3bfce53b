use Rattle.std.proofs.Common.{sym, subst}
use Rattle.hs_lazy.specs.Caches.{told}
use Rattle.hs_nodes.specs.Starting.{RunsAlone}
use Rattle.hs_waking.specs.Starts.{start_word}
use Rattle.hs_nodes.proofs.CachedLemmas.{told-false, told-true}
use Rattle.hs_nodes.proofs.ToldLemmas.{all-places, all-words, told-alone}
use Rattle.hs_nodes.proofs.engines.run_alone.Goals as goal

pub returns-then-is_told-clause-runs : goal.returns-then-is_told-clause-runs
returns-then-is_told-clause-runs g c =
    let m = g.E.Engine.meaning c.args.numbered.now.engine.now in
    let chunk = c.args.chunk.now in
    let (t, is) = told-true (told c.args.foretold.now.cache.now c.args.k) c.is_told.result c.is_told.ensures c.if-is_told.true in
    subst (λ rs. RunsAlone m c.args.region.now rs chunk.prev chunk.at chunk.bytes.now c.take_told.result) (sym (c.take_told.ensures.part t is))
    (told-alone m c.args.region.now chunk.prev chunk.at chunk.bytes.now t all-words c.take_told.result all-places (c.requires.told t is) (c.take_told.ensures.ends t is))

pub returns-else-is_told-clause-runs : goal.returns-else-is_told-clause-runs
returns-else-is_told-clause-runs g c = record {
  words = start_word c.args.foretold.now.starts.now c.args.k;
  runs = c.run_first.ensures.runs;
  suffices = c.requires.starts (told-false (told c.args.foretold.now.cache.now c.args.k) c.is_told.result c.is_told.ensures c.if-is_told.false);
}
