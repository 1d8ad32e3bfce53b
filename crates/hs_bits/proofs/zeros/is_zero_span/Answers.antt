use Rattle.std.proofs.lemmas.Bool.{eq-eqb, eqb-true}
use Rattle.hs_bits.proofs.ZeroLemmas.{block-zero, zero-block}
use Rattle.hs_bits.proofs.zeros.is_zero_span.Goals as goal

pub returns : goal.returns
returns c = (
  λ is. block-zero c.args.bytes.now c.args.at c.word_at.result c.word_at-2.result c.word_at-3.result c.word_at-4.result (λ i. (c.type_inv.bytes i).fits) c.requires c.word_at.ensures.number c.word_at-2.ensures.number c.word_at-3.ensures.number c.word_at-4.ensures.number (eqb-true _ 0 is),
  λ zeros. eq-eqb _ 0 (zero-block c.args.bytes.now c.args.at c.word_at.result c.word_at-2.result c.word_at-3.result c.word_at-4.result c.requires c.word_at.ensures.number c.word_at-2.ensures.number c.word_at-3.ensures.number c.word_at-4.ensures.number zeros),
)
