use Rattle.std.proofs.Common.{ℕ, ◌<◌, get_or}
use Rattle.hs_waking.proofs.tests.are_known.Given as goal

abbrev pub invariant-loop-number : goal.invariant-loop-number
invariant-loop-number l = (d : ℕ) → d < l.number-index → get_or l.row d 0 < l.count
