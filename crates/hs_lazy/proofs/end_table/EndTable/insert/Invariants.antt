use Rattle.std.proofs.Common.{◌≡◌, ℕ, ◌<◌, ◌≤◌, ◌-◌, ◌==◌, ◌&&◌, ◌||◌, nat_lt}
use Rattle.hs_base.specs.Bits.{has_word_bit}
use Rattle.hs_lazy.specs.Ends.{member_left_before, member_left_behind}
use Rattle.hs_lazy.proofs.end_table.EndTable.insert.Given as goal

abbrev pub invariant-loop-member : goal.invariant-loop-member
invariant-loop-member l = record {
  from : l.from ≤ 256;
  members : l.self.members ≡ l.initial.self.members;
  before : (m i : ℕ) → m < 256 → member_left_before l.self.rows m i
      ≡ (member_left_before l.fn.self.rows m i || (nat_lt m l.from && ((i == l.place) && has_word_bit l.set.before m)));
  behind : (m i : ℕ) → m < 256 → member_left_behind l.self.rows m i
      ≡ (member_left_behind l.fn.self.rows m i || (nat_lt m l.from && ((i == l.place) && has_word_bit l.set.behind m)));
}

abbrev pub decreases-loop-member : goal.decreases-loop-member
decreases-loop-member l = 256 - l.from
