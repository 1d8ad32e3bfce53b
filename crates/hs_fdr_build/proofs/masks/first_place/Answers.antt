use Rattle.hs_fdr_build.proofs.WidthLemmas.{row-within}
use Rattle.hs_fdr_build.proofs.masks.first_place.Goals as goal

pub returns-clause-value : goal.returns-clause-value
returns-clause-value c = (row-within c.args.width c.args.j c.requires.width.0 c.requires.width.1 c.requires.place).0

pub returns-clause-room : goal.returns-clause-room
returns-clause-room c = (row-within c.args.width c.args.j c.requires.width.0 c.requires.width.1 c.requires.place).1
