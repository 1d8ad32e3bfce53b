use Rattle.std.proofs.Common.{◌≡◌, ◌∙◌, Some, slice_get, ◌+◌, refl, sym, subst, ap, arith, length}
use Rattle.hs_lazy.specs.Tables.{engine_at}
use Rattle.hs_nodes.proofs.LoadLemmas.{load-more, load-sized, loaded-past}
use Rattle.hs_nodes.proofs.cached.load_marked.Goals as goal

pub loop-k-init : goal.loop-k-init
loop-k-init g c = record {
  dfas = refl;
  later = λ k low. refl;
  loaded = record {
    marked = λ k number node low on is at. absurd (omega (arith, low));
    others = λ k off. c.requires.zero k;
  };
}

pub load-requires : goal.load-requires
load-requires g c = record {
  sized = λ n is.
      let (literals, sound) = c.requires.sound in
      let inv = c.loop-k.invariant in
      let k = c.in-Some.k in
      let first = load-sized g.E.Engine.meaning c.args.table.now literals c.args.region.now sound c.args.cache.now c.requires.cache (λ k n e is at. c.loaded_regions.ensures k n e is (subst (λ es. slice_get es n ≡ Some e) (sym c.deref.ensures.value) at)) k n c.node_at-node.result (ap (λ d. engine_at d k) (sym inv.dfas) ∙ is) c.node_at-node.ensures in
      ap length (inv.later k c.in-Some.ensures.low) ∙ first;
}

pub loop-k-preserved : goal.loop-k-preserved
loop-k-preserved g c =
    let inv = c.loop-k.invariant in
    let k = c.in-Some.k in record {
      dfas = c.load.ensures.dfas ∙ inv.dfas;
      later = λ j high. c.load.ensures.others j (omega (arith, high)) ∙ inv.later j (omega (arith, high, c.in-Some.ensures.low));
      loaded = load-more c.args.table.now c.args.region.now c.args.marks.now c.loop-k.cache c.load.new.self c.loop-k.from k (k + 1) c.node_at-node.result refl c.node_at-node.ensures c.in-Some.ensures.is c.in-Some.ensures.low c.in-Some.ensures.least c.load.ensures.dfas c.load.ensures.own c.load.ensures.others inv.loaded;
    }

pub returns-clause-dfas : goal.returns-clause-dfas
returns-clause-dfas g c = c.loop-k.invariant.dfas

pub returns-clause-loaded : goal.returns-clause-loaded
returns-clause-loaded g c = loaded-past c.args.table.now c.args.region.now c.args.marks.now c.loop-k.cache c.loop-k.from _ c.in_default.ensures c.loop-k.invariant.loaded
