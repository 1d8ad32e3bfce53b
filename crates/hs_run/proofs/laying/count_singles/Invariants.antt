use Rattle.std.proofs.Common.{◌≡◌}
use Rattle.hs_run.specs.Keeping.{singles_before}
use Rattle.hs_run.proofs.laying.count_singles.Given as goal

abbrev pub invariant-loop-i : goal.invariant-loop-i
invariant-loop-i l = l.count ≡ singles_before l.identifiers l.i
