use Rattle.std.proofs.Common.{◌≡◌, ℕ, ◌*◌, ◌<◌, ◌≤◌, false}
use Rattle.hs_base.specs.Bits.{has_bit}
use Rattle.hs_bits.proofs.ranges.has_byte_among.Given as goal

abbrev pub invariant-loop-place : goal.invariant-loop-place
invariant-loop-place l = (k : ℕ) → 8 * l.first ≤ k → k < 8 * l.place → has_bit l.bytes k ≡ false
