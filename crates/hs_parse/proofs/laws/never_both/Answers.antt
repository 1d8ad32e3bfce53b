use Rattle.hs_parse.proofs.PathLemmas.{never_both}
use Rattle.hs_parse.proofs.laws.never_both.Goals as goal

pub returns : goal.returns
returns c = never_both
