use Rattle.hs_reports.proofs.WordBitLemmas.{bit-untold}
use Rattle.hs_reports.proofs.telling.not_told_behind.Goals as goal

pub returns : goal.returns
returns c i below = bit-untold c.args.before c.args.behind c.first_bit.result i c.args.here c.first_bit.type_inv below c.first_bit.ensures
