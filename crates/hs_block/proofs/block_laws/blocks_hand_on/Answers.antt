use Rattle.hs_block.proofs.HandingLemmas.{hands-on}
use Rattle.hs_block.proofs.block_laws.blocks_hand_on.Goals as goal

pub returns : goal.returns
returns c = hands-on
