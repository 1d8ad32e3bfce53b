use Rattle.std.proofs.Common.{◌≡◌, ℕ, ◌*◌, ◌<◌}
use Rattle.hs_base.specs.ByteSets.{has}
use Rattle.hs_pieces.proofs.same.same_set.Given as goal

abbrev pub invariant-loop-k : goal.invariant-loop-k
invariant-loop-k l = (b : ℕ) → b < 64 * l.k → has l.x b ≡ has l.y b
