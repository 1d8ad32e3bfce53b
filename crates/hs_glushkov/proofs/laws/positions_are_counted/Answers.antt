use Rattle.hs_glushkov.proofs.CountLemmas.{count-written}
use Rattle.hs_glushkov.proofs.laws.positions_are_counted.Goals as goal

pub returns : goal.returns
returns c = count-written
