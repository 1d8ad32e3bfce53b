use Rattle.hs_literals.proofs.HitStreamLemmas.{hits-of_block}
use Rattle.hs_literals.proofs.hit_laws.blocks_tell_of_streams.Goals as goal

pub returns : goal.returns
returns c = hits-of_block
