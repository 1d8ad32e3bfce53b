use Rattle.std.proofs.Common.{◌&&◌, sym, ap, ◌∙◌}
use Rattle.hs_bits.proofs.WordLemmas.{and-true, and-none}
use Rattle.hs_bits.specs.WordBits.{word_bit}
use Rattle.hs_bits.proofs.PlaceLemmas.{bit-none}
use Rattle.hs_bits.proofs.places.only_if.Goals as goal

pub returns-then-kept : goal.returns-then-kept
returns-then-kept c i = sym (ap (λ k. word_bit c.args.word i && k) c.if-kept.true ∙ and-true (word_bit c.args.word i))

pub returns-else-kept : goal.returns-else-kept
returns-else-kept c i = bit-none i ∙ sym (ap (λ k. word_bit c.args.word i && k) c.if-kept.false ∙ and-none (word_bit c.args.word i))
