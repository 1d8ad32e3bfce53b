use Rattle.std.proofs.Common.{arith}
use Rattle.hs_repeat.proofs.RingLemmas.{ring-quiet}
use Rattle.hs_repeat.proofs.ring.RingEngine.at_rest.Goals as goal

pub returns-clause-quiet : goal.returns-clause-quiet
returns-clause-quiet c rests =
    ring-quiet c.args.self.now.set c.args.self.now.least c.args.self.now.greatest (omega (arith, c.args.self.now.some)) c.args.region.now (c.is_zero.ensures.0 rests)
