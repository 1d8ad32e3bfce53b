use Rattle.std.proofs.Common.{◌≡◌, ◌+◌, ◌*◌, ◌≤◌, ℕ, false, length}
use Rattle.hs_nodes.specs.Left.{nowhere}
use Rattle.hs_nodes.specs.Leaving.{LeavesNodes}
use Rattle.hs_nodes.specs.Walks.{node_ends}
use Rattle.hs_nodes.proofs.leaving.leave_nodes.Given as goal

abbrev pub invariant-loop-k : goal.invariant-loop-k
invariant-loop-k g l = record {
  count : length l.ends ≡ length l.fn.ends;
  ticks : l.steps ≤ l.fn.steps + 16 * l.k;
  left : LeavesNodes g.E.Engine.meaning l.table l.region l.stop.prev l.stop.at l.stop.past.now l.stop.next l.stop.hits.now l.ends l.k;
  later : (j : ℕ) → l.k ≤ j → node_ends l.ends j ≡ nowhere;
  none : l.is_any ≡ false → (j : ℕ) → node_ends l.ends j ≡ nowhere;
}
