use Rattle.std.proofs.Common.{◌≡◌, ℕ, ◌<◌, true}
use Rattle.hs_base.specs.Bits.{has_bit}
use Rattle.hs_limex.specs.Near.{IsNearFrom}
use Rattle.hs_limex.proofs.far_filling.is_near.Given as goal

abbrev pub invariant-loop-bit : goal.invariant-loop-bit
invariant-loop-bit l = (k : ℕ) → k < l.bit → has_bit l.row k ≡ true → IsNearFrom l.position k
