use Rattle.std.proofs.Common.{◌≡◌, ℕ, ◌<◌, ◌≤◌, false}
use Rattle.hs_base.specs.Bits.{has_bit}
use Rattle.hs_bits.proofs.ranges.has_bit_among.Given as goal

abbrev pub invariant-loop-bit : goal.invariant-loop-bit
invariant-loop-bit l = (k : ℕ) → l.first ≤ k → k < l.bit → has_bit l.bytes k ≡ false
