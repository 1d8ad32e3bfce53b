use Rattle.hs_fdr_build.proofs.WidthLemmas.{spread-power, spread-share}
use Rattle.hs_fdr_build.proofs.clear.further_count.Goals as goal

pub returns-clause-power : goal.returns-clause-power
returns-clause-power c = spread-power c.args.width c.requires.0 c.requires.1

pub returns-clause-share : goal.returns-clause-share
returns-clause-share c = spread-share c.args.width c.requires.0 c.requires.1
