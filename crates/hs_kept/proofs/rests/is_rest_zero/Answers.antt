use Rattle.std.proofs.Common.{◌+◌, ◌-◌, ◌*◌, ◌/◌, ℕ, arith}
use Rattle.hs_bits.proofs.ZeroLemmas.{zero-then}
use Rattle.hs_kept.proofs.RowLemmas.{zero-range}
use Rattle.hs_kept.proofs.rests.is_rest_zero.Goals as goal

pub returns-then-are_words_zero : goal.returns-then-are_words_zero
returns-then-are_words_zero c is =
    let bytes = c.args.bytes.now in
    let mid : ℕ = c.args.at + 8 * ((c.args.end - c.args.at) / 8) in
    zero-then bytes c.args.at mid c.args.end (c.are_words_zero.ensures c.if-are_words_zero.true)
    (zero-range bytes mid c.args.end (omega (arith, c.requires.order)) c.requires.within (c.is_zero.ensures.0 is))
