use Rattle.hs_kept.proofs.PackingLemmas.{well-kept-unpacks-well}
use Rattle.hs_kept.proofs.packing_laws.well_kept_unpacks_well.Goals as goal

pub returns : goal.returns
returns c = well-kept-unpacks-well
