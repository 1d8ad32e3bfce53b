use Rattle.std.proofs.Common.{◌≤◌}
use Rattle.hs_lazy.proofs.steps.has_many_ends.Given as goal

abbrev pub invariant-loop-place : goal.invariant-loop-place
invariant-loop-place l = record {
  most : l.ending ≤ l.place;
}
