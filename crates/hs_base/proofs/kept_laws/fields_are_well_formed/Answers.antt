use Rattle.hs_base.proofs.KeptLemmas.{fields-at}
use Rattle.hs_base.proofs.kept_laws.fields_are_well_formed.Goals as goal

pub returns : goal.returns
returns c = fields-at
