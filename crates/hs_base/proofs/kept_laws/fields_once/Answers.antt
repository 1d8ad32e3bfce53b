use Rattle.hs_base.proofs.KeptLemmas.{fields-once}
use Rattle.hs_base.proofs.kept_laws.fields_once.Goals as goal

pub returns : goal.returns
returns c = fields-once
