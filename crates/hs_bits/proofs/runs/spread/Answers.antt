use Rattle.hs_bits.proofs.RunLemmas.{spread-bit}
use Rattle.hs_bits.proofs.runs.spread.Goals as goal

pub returns : goal.returns
returns c i = spread-bit c.args.first c.args.run _ i
