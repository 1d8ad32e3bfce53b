use Rattle.hs_fdr_build.proofs.WidthLemmas.{top-is}
use Rattle.hs_fdr_build.proofs.masks.row_len.Goals as goal

pub returns-clause-value : goal.returns-clause-value
returns-clause-value c = (top-is c.args.width c.requires.0 c.requires.1).0

pub returns-clause-small : goal.returns-clause-small
returns-clause-small c = (top-is c.args.width c.requires.0 c.requires.1).1
