use Rattle.std.proofs.Common.{◌+◌, ◌-◌, ◌*◌, ◌/◌}
use Rattle.hs_bits.proofs.ZeroLemmas.{zero-then}
use Rattle.hs_kept.proofs.rests.is_zero_between.Goals as goal

pub returns-then-are_spans_zero : goal.returns-then-are_spans_zero
returns-then-are_spans_zero c is =
    let bytes = c.args.bytes.now in
    zero-then bytes c.args.at (c.args.at + 32 * ((c.args.end - c.args.at) / 32)) c.args.end (c.are_spans_zero.ensures c.if-are_spans_zero.true) (c.is_rest_zero.ensures is)
