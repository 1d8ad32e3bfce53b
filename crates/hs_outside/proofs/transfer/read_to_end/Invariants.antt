use Rattle.std.proofs.Common.{◌≡◌, ◌≤◌, ◌-◌, length}
use Rattle.hs_outside.specs.Source.{Gave}
use Rattle.hs_outside.proofs.transfer.read_to_end.Given as goal

abbrev pub invariant-loop-bytes : goal.invariant-loop-bytes
invariant-loop-bytes g l = record {
  given : Gave (g.I.Source.left l.initial.source) (g.I.Source.left l.source) l.bytes.items;
  within : length l.bytes.items ≤ l.limit;
  counted : g.I.Source.faults l.source ≡ g.I.Source.faults l.initial.source;
}

abbrev pub decreases-loop-bytes : goal.decreases-loop-bytes
decreases-loop-bytes g l = l.limit - length l.bytes.items
