use Rattle.hs_layout.proofs.FieldLemmas.{fields-disjoint}
use Rattle.hs_layout.proofs.laws.fields_are_disjoint.Goals as goal

pub returns : goal.returns
returns c l k region bytes apart sized there long = fields-disjoint l k region bytes apart sized there long
