use Rattle.std.proofs.Common.{◌-◌}
use Rattle.std.proofs.lemmas.List.{take_rest}
use Rattle.hs_scan.proofs.PastLemmas.{reaches}
use Rattle.hs_scan.proofs.past.seen_of.Goals as goal

pub returns : goal.returns
returns c u literal offset past short =
    reaches c.args.at c.min-seen.result c.args.past.now _ u literal c.min-seen.ensures (take_rest c.args.past.now (64 - c.min-seen.result)) offset past short
