use Rattle.std.proofs.Common.{◌≡◌, ℕ, ◌<◌}
use Rattle.std.specs.Prelude.{◌&&◌, nat_lt}
use Rattle.hs_base.specs.ByteSets.{has}
use Rattle.regex_class.specs.Ranges.{in_ranges}
use Rattle.hs_utf8.proofs.set.ascii_members.Given as goal

abbrev pub invariant-loop-byte : goal.invariant-loop-byte
invariant-loop-byte l = (b : ℕ) → b < 256 → has l.set b ≡ (nat_lt b l.byte && in_ranges l.class.ranges.items b)
