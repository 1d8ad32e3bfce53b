use Rattle.std.proofs.Common.{◌≤◌}
use Rattle.std.specs.Slice.Scan.{HoldsNowhere}
use Rattle.hs_nodes.specs.Living.{is_live}
use Rattle.hs_nodes.proofs.living.next_live.Given as goal

abbrev pub invariant-loop-place : goal.invariant-loop-place
invariant-loop-place l = record {
  low : l.fn.from ≤ l.place;
  zero : HoldsNowhere (is_live l.bytes) l.fn.from l.place;
}
