use Rattle.std.proofs.Common.{◌≡◌, ℕ, ◌<◌, true, slice_get}
use Rattle.hs_base.specs.ByteSets.{has}
use Rattle.hs_engine.specs.Automata.{in_set}
use Rattle.hs_rose.proofs.positions.bytes_of_any.Given as goal

abbrev pub invariant-loop-set : goal.invariant-loop-set
invariant-loop-set l = (x b : ℕ) → x < l.set-index → b < 256 → in_set (slice_get l.sets x) b ≡ true → has l.any b ≡ true
