use Rattle.hs_kept.proofs.PackingLemmas.{packings-sized}
use Rattle.hs_kept.proofs.packing_laws.packings_are_sized.Goals as goal

pub returns : goal.returns
returns c = packings-sized
