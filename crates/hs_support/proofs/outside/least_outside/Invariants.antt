use Rattle.std.proofs.Common.{ℕ, ◌<◌}
use Rattle.hs_support.specs.Support.{IsOutside}
use Rattle.hs_support.proofs.outside.least_outside.Given as goal

abbrev pub invariant-loop-place : goal.invariant-loop-place
invariant-loop-place l = (k : ℕ) → k < l.place → IsOutside l.supported l.bits k → ⊥
