use Rattle.std.proofs.Common.{◌≡◌, ◌-◌, length, ap, ◌∙◌, arith}
use Rattle.std.proofs.lemmas.Option.{slice_get_within}
use Rattle.hs_pool.specs.Following.{state_to}
use Rattle.hs_pool.proofs.FollowLemmas.{state-low}
use Rattle.hs_pool.proofs.PoolLemmas.{alike-at, grown-at}
use Rattle.hs_pool.proofs.pool.StatePool.take.Goals as goal

pub returns-in_default-clause-pool : goal.returns-in_default-clause-pool
returns-in_default-clause-pool g c = grown-at (g.E.Engine.meaning c.args.engine.now) c.args.number c.args.self.now c.find.new.self c.find.ensures.grows c.requires.pool

pub returns-in_default-clause-others : goal.returns-in_default-clause-others
returns-in_default-clause-others g c n e apart pool = grown-at (g.E.Engine.meaning e) n c.args.self.now c.find.new.self c.find.ensures.grows pool

pub take_known-requires-clause-first : goal.take_known-requires-clause-first
take_known-requires-clause-first g c =
    let found = c.in-Some.ensures.found in
    let low = slice_get_within c.find.new.self.states.items c.in-Some.first found.state found.is in
    omega (arith, low, c.find.new.self.rows_len, ap length c.deref.ensures.value)

pub earn-requires : goal.earn-requires
earn-requires g c =
    let found = c.in-Some.ensures.found in
    let pool = c.find.new.self in
    let low = slice_get_within pool.states.items c.in-Some.first found.state found.is in
    let there = state-low pool.rows.items (length pool.states.items) c.in-Some.first c.args.from c.args.enters c.args.bytes.now pool.leading low (length c.args.bytes.now - c.args.from) in
    let is : c.in-Some-take_known.taken.state ≡ state_to pool.rows.items c.in-Some.first c.args.from c.args.enters c.args.bytes.now (length c.args.bytes.now - c.args.from) =
    c.in-Some-take_known.ensures.state_is ∙ ap (λ rows. state_to rows c.in-Some.first c.args.from c.args.enters c.args.bytes.now (length c.args.bytes.now - c.args.from)) c.deref.ensures.value in
    omega (arith, is, there, pool.few)

pub returns-in-Some-take_known-clause-pool : goal.returns-in-Some-take_known-clause-pool
returns-in-Some-take_known-clause-pool g c =
    let m = g.E.Engine.meaning c.args.engine.now in
    alike-at m c.args.number c.find.new.self c.earn.new.self c.earn.ensures (grown-at m c.args.number c.args.self.now c.find.new.self c.find.ensures.grows c.requires.pool)

pub returns-in-Some-take_known-clause-others : goal.returns-in-Some-take_known-clause-others
returns-in-Some-take_known-clause-others g c n e apart pool =
    let m = g.E.Engine.meaning e in
    alike-at m n c.find.new.self c.earn.new.self c.earn.ensures (grown-at m n c.args.self.now c.find.new.self c.find.ensures.grows pool)

pub learn-requires-clause-pool : goal.learn-requires-clause-pool
learn-requires-clause-pool g c = grown-at (g.E.Engine.meaning c.args.engine.now) c.args.number c.args.self.now c.find.new.self c.find.ensures.grows c.requires.pool

pub returns-then-not-learn-clause-others : goal.returns-then-not-learn-clause-others
returns-then-not-learn-clause-others g c n e apart pool = c.learn.ensures.others n e apart (grown-at (g.E.Engine.meaning e) n c.args.self.now c.find.new.self c.find.ensures.grows pool)

pub take_known-requires-2-clause-first : goal.take_known-requires-2-clause-first
take_known-requires-2-clause-first g c =
    let found = c.in-Some.ensures.found in
    let low = slice_get_within c.learn.new.self.states.items c.in-Some.first found.state (c.learn.ensures.still c.in-Some.first found.state found.is) in
    omega (arith, low, c.learn.new.self.rows_len, ap length c.deref-2.ensures.value)

pub returns-clause-others : goal.returns-clause-others
returns-clause-others g c n e apart pool = c.learn.ensures.others n e apart (grown-at (g.E.Engine.meaning e) n c.args.self.now c.find.new.self c.find.ensures.grows pool)
