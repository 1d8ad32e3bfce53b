use Rattle.hs_kept.proofs.PackingLemmas.{well-formed-packs-well}
use Rattle.hs_kept.proofs.packing_laws.well_formed_packs_well.Goals as goal

pub returns : goal.returns
returns c = well-formed-packs-well
