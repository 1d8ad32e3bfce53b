use Rattle.std.proofs.Common.{◌≡◌, ◌≤◌, ◌-◌, length}
use Rattle.hs_literals.specs.Held.{held}
use Rattle.hs_literals.specs.AllEnds.{ends_behind}
use Rattle.hs_literals.proofs.scan.LitScan.enter_next.Given as goal

abbrev pub invariant-loop-mask : goal.invariant-loop-mask
invariant-loop-mask l = record {
  bytes : l.self.places.bytes ≡ l.fn.self.places.bytes;
  ends : l.self.ends ≡ l.fn.self.ends;
  low : l.fn.self.places.at ≤ l.self.places.at;
  same : ends_behind (held l.fn.self.places.literals.now) l.fn.self.places.history.now l.fn.self.places.bytes.now l.fn.self.places.at ≡ ends_behind (held l.self.places.literals.now) l.self.places.history.now l.self.places.bytes.now l.self.places.at;
}

abbrev pub decreases-loop-mask : goal.decreases-loop-mask
decreases-loop-mask l = length l.self.places.bytes.now - l.self.places.at
