use Rattle.hs_bits.proofs.LowestLemmas.{behind-lowest, fewer-behind}
use Rattle.hs_bits.proofs.lowest.without_lowest_bit.Goals as goal

pub returns-clause-fewer : goal.returns-clause-fewer
returns-clause-fewer c = fewer-behind c.args.word c.requires

pub returns-clause-behind : goal.returns-clause-behind
returns-clause-behind c = λ place low. behind-lowest c.args.word place low
