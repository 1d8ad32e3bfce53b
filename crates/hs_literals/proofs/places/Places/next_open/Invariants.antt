use Rattle.std.proofs.Common.{◌≡◌, ◌≤◌, ◌+◌, ◌-◌, length}
use Rattle.hs_confirm.specs.Filed.{literals_of}
use Rattle.hs_literals.specs.Places.{NoneBetween}
use Rattle.hs_literals.proofs.places.Places.next_open.Given as goal

abbrev pub invariant-loop-self : goal.invariant-loop-self
invariant-loop-self l = record {
  literals : l.self.literals ≡ l.fn.self.literals;
  history : l.self.history ≡ l.fn.self.history;
  bytes : l.self.bytes ≡ l.fn.self.bytes;
  low : l.fn.self.at ≤ l.self.at;
  none : NoneBetween (literals_of l.fn.self.literals.now.confirm) l.fn.self.history.now l.fn.self.bytes.now l.fn.self.at (l.self.at + 1);
}

abbrev pub decreases-loop-self : goal.decreases-loop-self
decreases-loop-self l = length l.self.bytes.now - l.self.block
