use Rattle.std.proofs.Common.{◌||◌, ap, ◌∙◌}
use Rattle.hs_base.specs.Bits.{has_bit}
use Rattle.hs_bits.proofs.WordLemmas.{or-none, zero-row}
use Rattle.hs_bits.proofs.rows.load.Goals as goal

pub returns-clause-bits : goal.returns-clause-bits
returns-clause-bits g c k = c.unite_bytes.ensures.bits k ∙ (ap (λ b. has_bit c.args.bytes.now k || b) (zero-row _ k) ∙ or-none (has_bit c.args.bytes.now k))
