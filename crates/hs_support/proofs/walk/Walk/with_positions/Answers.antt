use Rattle.hs_support.proofs.WalkLemmas.{positions-lead}
use Rattle.hs_support.proofs.walk.Walk.with_positions.Goals as goal

pub returns : goal.returns
returns c t of parts answer leads =
    positions-lead c.args.self.found c.args.self.count c.args.self.run c.run_ended-ended.result.found
    c.run_ended-ended.result.count c.args.count c.saturating_add.result t parts answer
    c.args.self.short c.run_ended-ended.ensures of c.saturating_add.ensures leads
