use Rattle.hs_scan.proofs.PastLemmas.{prev-of}
use Rattle.hs_scan.proofs.past.prev_of.Goals as goal

pub returns : goal.returns
returns c u offset past = prev-of c.args.at c.args.past.now u c.prev_behind.result c.prev_behind.ensures offset past
