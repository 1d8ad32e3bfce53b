use Rattle.std.proofs.Common.{◌≡◌, ◌≤◌, ◌-◌, length}
use Rattle.hs_lazy.proofs.end_table.EndTable.often_left.Given as goal

abbrev pub invariant-loop-member : goal.invariant-loop-member
invariant-loop-member l = record {
  len : length l.often ≡ 4;
  from : l.from ≤ 256;
}

abbrev pub decreases-loop-member : goal.decreases-loop-member
decreases-loop-member l = 256 - l.from
