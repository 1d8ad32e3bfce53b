use Rattle.std.proofs.Common.{◌≡◌, Some, slice_get, take, sym, subst, ◌∙◌}
use Rattle.std.proofs.lemmas.Option.{get_or_from_slice_get, slice_get_within}
use Rattle.hs_engine.specs.Timeless.{TakesStep}
use Rattle.hs_pool.specs.declared.state.State.{State}
use Rattle.hs_pool.proofs.PoolLemmas.{alike-at, grown-at, kept-alike, put-other, put-own}
use Rattle.hs_pool.proofs.pool.StatePool.make.Goals as goal

pub write-requires-clause-state : goal.write-requires-clause-state
write-requires-clause-state g c =
    let own = c.requires.state in
    slice_get_within c.find.new.self.states.items c.args.state own.state
    (c.in-Some-find.ensures.grows.still c.args.state own.state (kept-alike c.args.self.now c.spend.new.self c.spend.ensures c.args.state own.state own.is))

pub write-requires-clause-next : goal.write-requires-clause-next
write-requires-clause-next g c =
    let found = c.in-Some-find.ensures.found in
    slice_get_within c.find.new.self.states.items c.in-Some-find.next found.state found.is

pub returns-in_default-find-clause-pool : goal.returns-in_default-find-clause-pool
returns-in_default-find-clause-pool g c =
    let m = g.E.Engine.meaning c.args.engine.now in
    grown-at m c.args.number c.spend.new.self c.find.new.self c.find.ensures.grows (alike-at m c.args.number c.args.self.now c.spend.new.self c.spend.ensures c.requires.pool)

pub returns-in_default-find-clause-others : goal.returns-in_default-find-clause-others
returns-in_default-find-clause-others g c n e apart pool =
    let m = g.E.Engine.meaning e in
    grown-at m n c.spend.new.self c.find.new.self c.find.ensures.grows (alike-at m n c.args.self.now c.spend.new.self c.spend.ensures pool)

pub returns-clause-pool : goal.returns-clause-pool
returns-clause-pool g c =
    let m = g.E.Engine.meaning c.args.engine.now in
    let own = c.requires.state in
    let found = c.in-Some-find.ensures.found in
    let was : slice_get c.spend.new.self.states.items c.args.state ≡ Some own.state = kept-alike c.args.self.now c.spend.new.self c.spend.ensures c.args.state own.state own.is in
    let there : slice_get c.find.new.self.states.items c.args.state ≡ Some own.state = c.in-Some-find.ensures.grows.still c.args.state own.state was in
    let same : c.index-old.result.now ≡ own.state = c.index-old.ensures ∙ get_or_from_slice_get c.spend.new.self.states.items c.args.state own.state c.index-old.result.now was in
    put-own m c.args.number c.args.state c.in-Some-find.next c.args.enters c.args.byte c.in-Some.ends c.find.new.self c.write.new.self c.write.ensures own.state found.state there found.is
    (found.of.engine_is ∙ sym own.engine_is) (found.of.prev_is ∙ c.behind.ensures)
    (subst (λ (r : _). TakesStep m (take m.width own.state.region) (take m.width r) own.state.prev c.args.enters c.args.byte c.in-Some.ends) (sym found.of.region_is)
    (subst (λ (s : State). TakesStep m (take m.width s.region) (take m.width c.ask.new.region) s.prev c.args.enters c.args.byte c.in-Some.ends) same c.in-Some.ensures))
    (grown-at m c.args.number c.spend.new.self c.find.new.self c.find.ensures.grows (alike-at m c.args.number c.args.self.now c.spend.new.self c.spend.ensures c.requires.pool))

pub returns-clause-others : goal.returns-clause-others
returns-clause-others g c n e apart pool =
    let m = g.E.Engine.meaning e in
    let own = c.requires.state in
    let there : slice_get c.find.new.self.states.items c.args.state ≡ Some own.state =
    c.in-Some-find.ensures.grows.still c.args.state own.state (kept-alike c.args.self.now c.spend.new.self c.spend.ensures c.args.state own.state own.is) in
    put-other m n c.args.state c.in-Some-find.next c.args.enters c.args.byte c.in-Some.ends c.find.new.self c.write.new.self c.write.ensures own.state there (λ same. apart (sym same ∙ own.engine_is))
    (grown-at m n c.spend.new.self c.find.new.self c.find.ensures.grows (alike-at m n c.args.self.now c.spend.new.self c.spend.ensures pool))
