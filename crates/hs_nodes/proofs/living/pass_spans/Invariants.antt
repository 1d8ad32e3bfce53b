use Rattle.std.proofs.Common.{◌-◌, ◌≤◌, length}
use Rattle.std.specs.Slice.Scan.{HoldsNowhere}
use Rattle.hs_nodes.specs.Living.{is_live}
use Rattle.hs_nodes.proofs.living.pass_spans.Given as goal

abbrev pub invariant-loop-at : goal.invariant-loop-at
invariant-loop-at l = record {
  low : l.fn.from ≤ l.at;
  high : l.at ≤ length l.bytes;
  zero : HoldsNowhere (is_live l.bytes) l.fn.from l.at;
}

abbrev pub decreases-loop-at : goal.decreases-loop-at
decreases-loop-at l = length l.bytes - l.at
