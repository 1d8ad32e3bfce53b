use Rattle.std.proofs.Common.{◌+◌, ◌*◌, ◌<◌, ◌≤◌}
use Rattle.hs_lazy.proofs.steps.cost_of.Given as goal

abbrev pub invariant-loop-word : goal.invariant-loop-word
invariant-loop-word l = record {
  some : 0 < l.cost;
  most : l.cost ≤ 64 * l.word + 1;
}
