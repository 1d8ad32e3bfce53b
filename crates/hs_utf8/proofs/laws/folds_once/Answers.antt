use Rattle.hs_utf8.proofs.FoldLemmas.{folds-once}
use Rattle.hs_utf8.proofs.laws.folds_once.Goals as goal

pub returns : goal.returns
returns c = folds-once
