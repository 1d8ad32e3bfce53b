use Rattle.std.proofs.Common.{◌≡◌, ℕ, ◌<◌, ◌≤◌, ◌-◌, false}
use Rattle.hs_lazy.specs.Ends.{member_left_before, member_left_behind}
use Rattle.hs_lazy.proofs.end_table.EndTable.clear.Given as goal

abbrev pub invariant-loop-member : goal.invariant-loop-member
invariant-loop-member l = record {
  from : l.from ≤ 256;
  members : l.self.members ≡ l.initial.self.members;
  before : (m i : ℕ) → m < l.from → member_left_before l.self.rows m i ≡ false;
  behind : (m i : ℕ) → m < l.from → member_left_behind l.self.rows m i ≡ false;
}

abbrev pub decreases-loop-member : goal.decreases-loop-member
decreases-loop-member l = 256 - l.from
