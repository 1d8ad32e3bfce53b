use Rattle.hs_block.proofs.HandingLemmas.{hands-none}
use Rattle.hs_block.proofs.block_laws.handing_on_begins.Goals as goal

pub returns : goal.returns
returns c = hands-none
