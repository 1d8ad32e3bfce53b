use Rattle.std.proofs.Common.{◌≡◌, ◌-◌, ◌<◌, ◌≤◌, ℕ, Some, length, slice_get}
use Rattle.hs_nodes.specs.declared.table.Node.{Node}
use Rattle.hs_nodes.proofs.living.node_around.Given as goal

abbrev pub invariant-loop-low : goal.invariant-loop-low
invariant-loop-low l = record {
  first : l.fn.from ≤ l.low;
  order : l.low ≤ l.high;
  within : l.high ≤ length l.nodes;
  before : (j : ℕ) (node : Node) → l.fn.from ≤ j → j < l.low → slice_get l.nodes j ≡ Some node → node.end ≤ l.place;
  own : (node : Node) → slice_get l.nodes l.high ≡ Some node → l.place < node.end;
}

abbrev pub decreases-loop-low : goal.decreases-loop-low
decreases-loop-low l = l.high - l.low
