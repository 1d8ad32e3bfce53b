use Rattle.std.proofs.Common.{◌≡◌, ◌∙◌, slice_get, Some, sym, subst, ap, arith, length}
use Rattle.hs_lazy.specs.Tables.{engine_at}
use Rattle.hs_nodes.proofs.LoadLemmas.{cached-below, tells-nodes, told-asleep}
use Rattle.hs_nodes.proofs.cached.run_cached.Goals as goal

pub mark_woken-requires : goal.mark_woken-requires
mark_woken-requires g c = record {
  room = λ k n is. omega (arith, cached-below g.E.Engine.meaning c.args.table.now c.shed_cache.new.cache c.shed_cache.ensures k n (ap (λ d. engine_at d k) (sym (c.load_marked.ensures.dfas ∙ c.begin.ensures.dfas)) ∙ (sym (c.run.ensures.same k) ∙ is)), c.requires.room);
}

pub returns-clause-more : goal.returns-clause-more
returns-clause-more g c = record {
  room = c.mark_woken.ensures.room;
  kept = c.mark_woken.ensures.kept;
  below = c.mark_woken.ensures.below (length c.args.table.now.nodes.items) (λ k n is. cached-below g.E.Engine.meaning c.args.table.now c.shed_cache.new.cache c.shed_cache.ensures k n (ap (λ d. engine_at d k) (sym (c.load_marked.ensures.dfas ∙ c.begin.ensures.dfas)) ∙ (sym (c.run.ensures.same k) ∙ is))) c.requires.below;
}

pub returns-clause-told : goal.returns-clause-told
returns-clause-told g c =
    let (literals, sound) = c.requires.sound in
    tells-nodes g.E.Engine.meaning c.args.table.now literals c.args.region.now sound c.args.marks.now c.shed_cache.new.cache c.load_marked.new.cache _ c.shed_cache.ensures (c.load_marked.ensures.dfas ∙ c.begin.ensures.dfas) (λ k n e is at. c.loaded_regions.ensures k n e is (subst (λ es. slice_get es n ≡ Some e) (sym c.deref.ensures.value) at))
    (λ k on. omega (arith, c.requires.below k on, c.requires.room)) c.requires.resting c.load_marked.ensures.loaded c.run.new.self c.args.prev c.args.bytes.now c.run.ensures.of (λ k t e is at. c.run.ensures.told k t e is (subst (λ es. slice_get es t.engine ≡ Some e) (sym c.deref-2.ensures.value) at))

pub returns-clause-asleep : goal.returns-clause-asleep
returns-clause-asleep g c =
    let (literals, sound) = c.requires.sound in
    told-asleep g.E.Engine.meaning c.args.table.now literals c.args.region.now sound c.args.marks.now c.shed_cache.new.cache c.load_marked.new.cache _ c.shed_cache.ensures (c.load_marked.ensures.dfas ∙ c.begin.ensures.dfas) (λ k n e is at. c.loaded_regions.ensures k n e is (subst (λ es. slice_get es n ≡ Some e) (sym c.deref.ensures.value) at))
    (λ k on. omega (arith, c.requires.below k on, c.requires.room)) c.requires.resting c.load_marked.ensures.loaded c.run.new.self c.args.prev c.args.bytes.now c.run.ensures.of (λ k t e is at. c.run.ensures.told k t e is (subst (λ es. slice_get es t.engine ≡ Some e) (sym c.deref-2.ensures.value) at)) c.mark_woken.new.marks c.mark_woken.ensures.kept c.mark_woken.ensures.silent
