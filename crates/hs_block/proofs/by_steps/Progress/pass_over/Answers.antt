use Rattle.std.proofs.Common.{◌<◌, arith}
use Rattle.hs_block.proofs.RunLemmas.{run-over}
use Rattle.hs_block.proofs.by_steps.Progress.pass_over.Goals as goal

pub returns-clause-runs : goal.returns-clause-runs
returns-clause-runs g c first prev at ticks run =
    let m = g.E.Engine.meaning c.args.engine.now in
    let p = c.args.self.now in
    let to = c.asleep_until-to.result in
    let further : p.place < to = omega (arith, c.asleep_until-to.ensures.low, c.if-to-self.false) in
    run-over m first c.args.region.now prev at c.args.enters c.args.bytes.now p ticks to c.behind-self.result further c.asleep_until-to.ensures.high (c.asleep_until-to.ensures.rests further)
    (c.asleep_until-to.ensures.asleep further) c.requires.throughout c.requires.len c.behind-self.ensures run
