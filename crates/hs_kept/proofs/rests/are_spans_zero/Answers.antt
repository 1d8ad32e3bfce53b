use Rattle.std.proofs.Common.{◌+◌, ◌*◌, ℕ, arith}
use Rattle.hs_bits.proofs.ZeroLemmas.{zero-then}
use Rattle.hs_kept.proofs.rests.are_spans_zero.Goals as goal

pub loop-number-preserved : goal.loop-number-preserved
loop-number-preserved c =
    let bytes = c.args.bytes.now in
    let mid : ℕ = c.args.at + 32 * c.loop-number.number in
    zero-then bytes c.args.at mid _ c.loop-number.invariant (λ k low high. c.is_zero_span.ensures.0 c.if-not-is_zero_span.false k low (omega (arith, high)))
