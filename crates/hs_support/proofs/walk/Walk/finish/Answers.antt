use Rattle.hs_support.proofs.WalkLemmas.{end-leads}
use Rattle.hs_support.proofs.walk.Walk.finish.Goals as goal

pub returns : goal.returns
returns c =
    end-leads c.args.self.found c.args.self.count c.args.self.run c.run_ended-ended.result.found c.first_excess.result
    c.run_ended-ended.result.count c.args.self.short c.run_ended-ended.ensures c.first_excess.ensures
