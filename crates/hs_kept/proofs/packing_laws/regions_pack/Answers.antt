use Rattle.hs_kept.proofs.PackingLemmas.{regions-pack}
use Rattle.hs_kept.proofs.packing_laws.regions_pack.Goals as goal

pub returns : goal.returns
returns c = regions-pack
