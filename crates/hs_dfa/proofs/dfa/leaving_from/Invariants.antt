use Rattle.std.proofs.Common.{◌≡◌, ℕ, ◌+◌, ◌*◌, ◌<◌, false, slice_index}
use Rattle.hs_base.specs.ByteSets.{has}
use Rattle.hs_dfa.proofs.dfa.leaving_from.Given as goal

abbrev pub invariant-loop-byte : goal.invariant-loop-byte
invariant-loop-byte l = (b : ℕ) → b < l.byte → has l.leaving b ≡ false → slice_index l.rows (l.number * l.class_count + slice_index l.classes b) ≡ l.number
