use Rattle.std.proofs.Common.{arith}
use Rattle.hs_bits.specs.WordBits.{word_bit}
use Rattle.hs_block.proofs.RunLemmas.{asleep-over, awake-busy}
use Rattle.hs_block.proofs.by_steps.asleep_until.Goals as goal

pub returns-then-not-rests-clause-busy : goal.returns-then-not-rests-clause-busy
returns-then-not-rests-clause-busy g c below =
    awake-busy (g.E.Engine.meaning c.args.engine.now).always (word_bit c.args.enters c.args.place) c.args.rests c.args.region.now (λ always. c.requires.throughout always c.args.place below) c.requires.rests c.if-not-rests.true

pub returns-then-is_start-clause-asleep : goal.returns-then-is_start-clause-asleep
returns-then-is_start-clause-asleep g c further =
    let started = c.is_start.ensures in
    asleep-over (g.E.Engine.meaning c.args.engine.now) c.wakers.result.now c.args.region.now c.args.enters c.args.bytes.now c.args.place c.next_waker-to.result c.wakers.ensures
    (started.starts c.if-is_start.true) (started.zero c.if-is_start.true) (started.well c.if-is_start.true) (c.requires.quiet c.if-not-rests.false) c.requires.throughout c.next_waker-to.ensures.high
    (λ i. omega (arith, c.type_inv.bytes i)) c.next_waker-to.ensures.none
