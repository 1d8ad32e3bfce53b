use Rattle.std.proofs.Common.{arith}
use Rattle.hs_bits.proofs.UnionLemmas.{united-bits}
use Rattle.hs_bits.proofs.bytes.unite_bits.Goals as goal

pub returns-clause-bits : goal.returns-clause-bits
returns-clause-bits c =
    united-bits c.args.bytes.now c.args.row.now c.loop-place.bytes (λ i below. c.loop-place.invariant.united i (omega arith)) (λ i above. c.loop-place.invariant.kept i (omega arith))
