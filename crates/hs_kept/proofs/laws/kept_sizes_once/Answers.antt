use Rattle.hs_kept.proofs.KeptLemmas.{sizes-once}
use Rattle.hs_kept.proofs.laws.kept_sizes_once.Goals as goal

pub returns : goal.returns
returns c = sizes-once
