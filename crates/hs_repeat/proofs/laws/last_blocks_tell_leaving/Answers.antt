use Rattle.hs_repeat.proofs.LastLawLemmas.{tells-leaving}
use Rattle.hs_repeat.proofs.laws.last_blocks_tell_leaving.Goals as goal

pub returns : goal.returns
returns c = tells-leaving
