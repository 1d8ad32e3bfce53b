use Rattle.std.proofs.Common.{◌+◌, ◌*◌, ℕ, arith}
use Rattle.hs_bits.proofs.ZeroLemmas.{word-zero, zero-then}
use Rattle.hs_kept.proofs.rests.are_words_zero.Goals as goal

pub loop-number-preserved : goal.loop-number-preserved
loop-number-preserved c =
    let bytes = c.args.bytes.now in
    let mid : ℕ = c.args.at + 8 * c.loop-number.number in
    zero-then bytes c.args.at mid _ c.loop-number.invariant
    (λ k low high. word-zero bytes mid c.word_at.result (λ i. (c.type_inv.bytes i).fits) (omega (arith, c.requires, c.loop-number-test.true)) c.word_at.ensures.number c.if-word_at-ne0.false k low (omega (arith, high)))
