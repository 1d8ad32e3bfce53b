use Rattle.std.proofs.Common.{◌+◌, ◌*◌}
use Rattle.hs_bits.specs.Zeros.{IsZeroBetween}
use Rattle.hs_kept.proofs.rests.are_spans_zero.Given as goal

abbrev pub invariant-loop-number : goal.invariant-loop-number
invariant-loop-number l = IsZeroBetween l.bytes l.at (l.at + 32 * l.number)
