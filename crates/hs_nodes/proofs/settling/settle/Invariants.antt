use Rattle.std.proofs.Common.{◌≡◌, ◌-◌, ◌≤◌, length}
use Rattle.hs_nodes.proofs.SettleLemmas.{IsSettledTo}
use Rattle.hs_nodes.proofs.settling.settle.Given as goal

abbrev pub invariant-loop-k : goal.invariant-loop-k
invariant-loop-k g l = record {
  ends : length l.ends ≡ length l.table.nodes.items;
  within : l.from ≤ length l.table.nodes.items;
  is : IsSettledTo g.E.Engine.meaning l.table l.region l.fn.marks l.marks l.ends l.from;
}

abbrev pub decreases-loop-k : goal.decreases-loop-k
decreases-loop-k g l = length l.table.nodes.items - l.from
