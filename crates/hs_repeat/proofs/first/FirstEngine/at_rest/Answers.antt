use Rattle.std.proofs.Common.{arith}
use Rattle.hs_repeat.proofs.FirstLemmas.{first-quiet}
use Rattle.hs_repeat.proofs.first.FirstEngine.at_rest.Goals as goal

pub returns-clause-quiet : goal.returns-clause-quiet
returns-clause-quiet c rests =
    let kept = c.args.self.now.farthest in
    first-quiet kept.set kept.bound (omega (arith, kept.some)) c.args.region.now (c.is_at_rest.ensures.none.0 rests)
