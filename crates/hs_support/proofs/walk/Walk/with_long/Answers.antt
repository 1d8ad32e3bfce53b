use Rattle.hs_support.proofs.WalkLemmas.{long-lead}
use Rattle.hs_support.proofs.walk.Walk.with_long.Goals as goal

pub returns : goal.returns
returns c set least greatest parts answer leads =
    long-lead c.args.self.found c.args.self.count c.args.self.run c.run_ended-ended.result.found c.first_excess.result
    c.run_ended-ended.result.count set least greatest parts answer
    c.args.self.short c.run_ended-ended.ensures c.first_excess.ensures leads
