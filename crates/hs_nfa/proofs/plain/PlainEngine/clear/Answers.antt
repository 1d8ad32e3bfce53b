use Rattle.hs_base.specs.WrittenOut.{write_out}
use Rattle.hs_limex.proofs.PlainLemmas.{field-empty}
use Rattle.hs_base.proofs.BitLemmas.{zero-bits}
use Rattle.hs_nfa.proofs.plain.PlainEngine.clear.Goals as goal

pub returns-clause-starts : goal.returns-clause-starts
returns-clause-starts c tree runs = field-empty c.clear_bits.new.bytes (write_out tree) c.clear_bits.ensures.zero

pub returns-clause-well : goal.returns-clause-well
returns-clause-well c at k above = zero-bits c.clear_bits.new.bytes c.clear_bits.ensures.zero k
