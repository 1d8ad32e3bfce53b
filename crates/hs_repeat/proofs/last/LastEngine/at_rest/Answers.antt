use Rattle.hs_repeat.proofs.LastLemmas.{last-quiet}
use Rattle.hs_repeat.proofs.last.LastEngine.at_rest.Goals as goal

pub returns-clause-quiet : goal.returns-clause-quiet
returns-clause-quiet c rests =
    let kept = c.args.self.now.nearest in
    last-quiet kept.set kept.bound c.args.region.now (c.is_at_rest.ensures.none.0 rests)
