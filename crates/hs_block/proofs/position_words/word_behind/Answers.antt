use Rattle.std.proofs.Common.{◌-◌, ◌&&◌, ◌||◌, bit_and, ap, sym, ◌∙◌}
use Rattle.std.specs.Prelude.{nat_le}
use Rattle.hs_bits.specs.WordBits.{word_bit}
use Rattle.hs_bits.proofs.PlaceLemmas.{bit-both, bit-none}
use Rattle.hs_bits.proofs.WordLemmas.{and-none, or-none}
use Rattle.hs_block.proofs.position_words.word_behind.Goals as goal

pub returns-then-again-eq0 : goal.returns-then-again-eq0
returns-then-again-eq0 c i small =
    let class = c.args.class in
    let reached = c.args.reached in
    let before = word_bit (bit_and class reached) (i - 1) in
    bit-both class reached i
    ∙ ap (λ b. word_bit class i && b)
    (sym (ap (λ w. word_bit reached i || (nat_le 1 i && (before && word_bit w i))) c.if-again-eq0.true
    ∙ (ap (λ b. word_bit reached i || (nat_le 1 i && (before && b))) (bit-none i)
    ∙ (ap (λ b. word_bit reached i || (nat_le 1 i && b)) (and-none before) ∙ (ap (λ b. word_bit reached i || b) (and-none (nat_le 1 i)) ∙ or-none (word_bit reached i))))))
