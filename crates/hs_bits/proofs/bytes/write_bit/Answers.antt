use Rattle.std.proofs.Common.{◌∙◌}
use Rattle.hs_bits.proofs.BitRangeLemmas.{apart, bit-flipped}
use Rattle.hs_bits.proofs.bytes.write_bit.Goals as goal

pub returns-then-contains_bit-value-clause-bits : goal.returns-then-contains_bit-value-clause-bits
returns-then-contains_bit-value-clause-bits c k =
    bit-flipped c.args.bytes.now c.args.bit k c.args.value c.requires (λ same. apart c.contains_bit.result c.args.value c.if-contains_bit-value.true (c.contains_bit.ensures ∙ same))
