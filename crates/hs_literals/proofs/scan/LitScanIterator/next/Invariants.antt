use Rattle.std.proofs.Common.{◌≡◌, ◌-◌, length}
use Rattle.hs_literals.specs.Left.{scan_left}
use Rattle.hs_literals.proofs.scan.LitScanIterator.next.Given as goal

abbrev pub invariant-loop-number : goal.invariant-loop-number
invariant-loop-number l = scan_left l.self ≡ scan_left l.fn.self

abbrev pub decreases-loop-number : goal.decreases-loop-number
decreases-loop-number l = length l.self.places.bytes.now - l.self.places.at
