use Rattle.hs_kept.proofs.PackingLemmas.{unpacked-header}
use Rattle.hs_kept.proofs.packing_laws.unpacked_has_header.Goals as goal

pub returns : goal.returns
returns c = unpacked-header
