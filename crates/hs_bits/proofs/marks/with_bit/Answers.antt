use Rattle.std.proofs.Common.{eqb, sym, ap, ◌∙◌, w64}
use Rattle.std.proofs.lemmas.Nat.Bits.{bit_at_set_same, bit_at_set_other, bit_at_clear_same, bit_at_clear_other}
use Rattle.hs_bits.proofs.marks.with_bit.Goals as goal

pub returns-then-value-clause-put : goal.returns-then-value-clause-put
returns-then-value-clause-put c = ap (λ n. eqb n 1) (bit_at_set_same w64 c.args.word c.args.bit c.requires) ∙ sym c.if-value.true

pub returns-then-value-clause-others : goal.returns-then-value-clause-others
returns-then-value-clause-others c i below apart = bit_at_set_other w64 c.args.word c.args.bit c.requires i apart

pub returns-else-value-clause-put : goal.returns-else-value-clause-put
returns-else-value-clause-put c = ap (λ n. eqb n 1) (bit_at_clear_same w64 c.args.word c.args.bit c.requires) ∙ sym c.if-value.false

pub returns-else-value-clause-others : goal.returns-else-value-clause-others
returns-else-value-clause-others c i below apart = bit_at_clear_other w64 c.args.word c.args.bit c.requires i below apart
