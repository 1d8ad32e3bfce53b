use Rattle.std.proofs.Common.{◌≡◌, ◌-◌, length, sym, subst, arith}
use Rattle.hs_pool.specs.Running.{IsPath, IsUnwokenTo}
use Rattle.hs_pool.proofs.FollowLemmas.{state-low}
use Rattle.std.proofs.lemmas.Option.{slice_get_within}
use Rattle.hs_pool.proofs.PathLemmas.{block-asleep, block-taken, some-of}
use Rattle.hs_pool.proofs.PoolLemmas.{alike-at, alike-or-blank-at}
use Rattle.hs_pool.proofs.pool.StatePool.run.Goals as goal

pub returns-then-from-bytes-clause-takes : goal.returns-then-from-bytes-clause-takes
returns-then-from-bytes-clause-takes g c =
    let m = g.E.Engine.meaning c.args.engine.now in
    let bytes = c.args.bytes.now in
    let all : c.first_busy-from.result ≡ length bytes = omega (arith, c.if-from-bytes.true) in
    block-asleep m c.args.region.now c.args.prev c.args.enters bytes c.requires.listed (subst (λ n. IsUnwokenTo m c.args.enters bytes n) all c.first_busy-from.ensures.asleep) (λ i. omega (arith, c.type_inv.bytes i))
    (c.requires.idle c.args.region.now c.requires.len (c.first_busy-from.ensures.idle (omega (arith, all, some-of (length bytes) (sym c.if-is_empty.ensures)))))

pub returns-then-rests-clause-pool : goal.returns-then-rests-clause-pool
returns-then-rests-clause-pool g c = alike-at (g.E.Engine.meaning c.args.engine.now) c.args.number c.args.self.now c.rests.new.self c.rests.ensures c.requires.pool

pub returns-then-rests-clause-others : goal.returns-then-rests-clause-others
returns-then-rests-clause-others g c n e apart pool = alike-at (g.E.Engine.meaning e) n c.args.self.now c.rests.new.self c.rests.ensures pool

pub take-requires-clause-pool : goal.take-requires-clause-pool
take-requires-clause-pool g c = alike-at (g.E.Engine.meaning c.args.engine.now) c.args.number c.args.self.now c.rests.new.self c.rests.ensures c.requires.pool

pub returns-in_default-clause-pool : goal.returns-in_default-clause-pool
returns-in_default-clause-pool g c = alike-or-blank-at (g.E.Engine.meaning c.args.engine.now) c.args.number c.take.new.self c.begin_rest.new.self c.begin_rest.ensures c.take.ensures.pool

pub returns-in_default-clause-others : goal.returns-in_default-clause-others
returns-in_default-clause-others g c n e apart pool =
    alike-or-blank-at (g.E.Engine.meaning e) n c.take.new.self c.begin_rest.new.self c.begin_rest.ensures
    (c.take.ensures.others n e apart (alike-at (g.E.Engine.meaning e) n c.args.self.now c.rests.new.self c.rests.ensures pool))

pub read-requires-clause-state : goal.read-requires-clause-state
read-requires-clause-state g c =
    let pool = c.take.new.self in
    let path = c.in-Some.ensures.path in
    let low = slice_get_within pool.states.items path.first path.starts.state path.starts.is in
    let there = state-low pool.rows.items (length pool.states.items) path.first c.first_busy-from.result c.args.enters c.args.bytes.now pool.leading low (length c.args.bytes.now - c.first_busy-from.result) in
    omega (arith, path.run.state_is, there)

pub returns-clause-others : goal.returns-clause-others
returns-clause-others g c n e apart pool = c.take.ensures.others n e apart (alike-at (g.E.Engine.meaning e) n c.args.self.now c.rests.new.self c.rests.ensures pool)

pub returns-clause-takes : goal.returns-clause-takes
returns-clause-takes g c =
    let m = g.E.Engine.meaning c.args.engine.now in
    let bytes = c.args.bytes.now in
    let from = c.first_busy-from.result in
    let pool = c.take.new.self in
    block-taken m c.args.region.now c.read.new.region c.args.prev c.args.enters bytes pool c.args.number from c.in-Some.taken c.requires.listed c.requires.idle c.requires.len c.first_busy-from.ensures.asleep
    c.first_busy-from.ensures.idle (λ i. omega (arith, c.type_inv.bytes i)) c.take.ensures.pool pool.sink (omega (arith, c.first_busy-from.ensures.within, c.if-from-bytes.false))
    (subst (λ p. IsPath pool c.args.number c.args.region.now p from c.args.enters bytes c.in-Some.taken) c.prev_before-here.ensures c.in-Some.ensures.path) c.read.auto.region c.read.ensures
