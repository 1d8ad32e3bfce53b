use Rattle.std.proofs.Common.{◌≡◌, ◌<◌, ℕ, take}
use Rattle.hs_base.specs.ByteSets.{has}
use Rattle.regex_class.specs.Ranges.{in_ranges}
use Rattle.hs_parse.proofs.named_set.set_of.Given as goal

-- the bytes of the ranges so far are there
abbrev pub invariant-loop-k : goal.invariant-loop-k
invariant-loop-k l = (b : ℕ) → b < 256 → has l.set b ≡ in_ranges (take l.k l.ranges) b
