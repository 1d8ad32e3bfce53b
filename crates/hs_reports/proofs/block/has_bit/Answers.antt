use Rattle.hs_reports.proofs.WordBitLemmas.{bit-asked}
use Rattle.hs_reports.proofs.block.has_bit.Goals as goal

pub returns : goal.returns
returns c = bit-asked c.args.word c.args.place
