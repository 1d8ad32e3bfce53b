use Rattle.hs_kept.proofs.PackingLemmas.{kept-unpacks}
use Rattle.hs_kept.proofs.packing_laws.kept_unpacks.Goals as goal

pub returns : goal.returns
returns c = kept-unpacks
