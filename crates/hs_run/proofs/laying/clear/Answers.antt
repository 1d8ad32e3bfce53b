use Rattle.hs_run.proofs.LayingLemmas.{zero-empty, zero-well}
use Rattle.hs_run.proofs.laying.clear.Goals as goal

pub returns-clause-well : goal.returns-clause-well
returns-clause-well c = zero-well c.clear_bits.new.bytes c.clear_bits.ensures.zero

pub returns-clause-empty : goal.returns-clause-empty
returns-clause-empty c = zero-empty c.clear_bits.new.bytes c.clear_bits.ensures.zero
