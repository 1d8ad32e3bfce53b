use Rattle.std.proofs.Common.{◌*◌, ◌≤◌}
use Rattle.hs_lazy.proofs.end_table.times_left.Given as goal

abbrev pub invariant-loop-word : goal.invariant-loop-word
invariant-loop-word l = record {
  most : l.count ≤ 128 * l.word;
}
