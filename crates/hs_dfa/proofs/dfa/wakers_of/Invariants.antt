use Rattle.std.proofs.Common.{◌≡◌, ℕ, ◌<◌, false, slice_index}
use Rattle.hs_base.specs.ByteSets.{has}
use Rattle.hs_dfa.proofs.dfa.wakers_of.Given as goal

abbrev pub invariant-loop-byte : goal.invariant-loop-byte
invariant-loop-byte l = (b : ℕ) → b < l.byte → has l.wakers b ≡ false → slice_index l.rows (slice_index l.classes b) ≡ 0
