use Rattle.hs_kept.proofs.KeptLemmas.{forms-once}
use Rattle.hs_kept.proofs.laws.kept_forms_once.Goals as goal

pub returns : goal.returns
returns c = forms-once
