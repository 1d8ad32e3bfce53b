use Rattle.std.proofs.Common.{◌≡◌, ℕ, ◌<◌}
use Rattle.std.specs.Prelude.{◌&&◌, nat_le, nat_lt}
use Rattle.hs_base.specs.ByteSets.{has}
use Rattle.hs_utf8.proofs.byte_range.byte_range.Given as goal

abbrev pub invariant-loop-byte : goal.invariant-loop-byte
invariant-loop-byte l = (b : ℕ) → b < 256 → has l.set b ≡ (nat_le l.first b && (nat_lt b l.byte && nat_le b l.last))
