use Rattle.hs_base.proofs.EntryLemmas.{leaves-listed}
use Rattle.hs_base.proofs.leaving_laws.leaves_are_listed.Goals as goal

pub returns : goal.returns
returns c = leaves-listed
