use Rattle.std.proofs.Common.{◌≡◌, ◌+◌, ◌-◌, ◌≤◌, length, take}
use Rattle.hs_nodes.specs.Contexts.{AreRightIfMade}
use Rattle.hs_nodes.specs.Lone.{is_spent_node}
use Rattle.hs_nodes.specs.Openings.{is_passed}
use Rattle.hs_nodes.specs.Pooled.{ArePooled}
use Rattle.hs_nodes.specs.Walks.{nodes_ticks}
use Rattle.hs_nodes.proofs.WalkLemmas.{IsWalk}
use Rattle.hs_nodes.proofs.walking.walk.Given as goal

abbrev pub invariant-loop-k : goal.invariant-loop-k
invariant-loop-k g l = record {
  len : length l.region ≡ length l.initial.region;
  ends : length l.ends ≡ length l.table.nodes.items;
  contexts : AreRightIfMade l.contexts l.chunk.prev l.chunk.at l.chunk.bytes.now;
  steps : l.steps ≤ l.initial.steps + nodes_ticks (take l.from l.table.nodes.items) l.foretold.hits.now (length l.chunk.bytes.now);
  pool : ArePooled g.E.Engine.meaning l.table.engines.items l.pool;
  walk : IsWalk g.E.Engine.meaning l.table (is_spent_node l.foretold.spent.lone.now l.foretold.spent.told.now) (is_passed l.foretold.are_over l.foretold.openings.now) l.fn.region l.fn.marks l.chunk.prev l.chunk.at l.chunk.past.now l.chunk.bytes.now l.foretold.hits.now l.region l.ends l.marks l.from;
}

abbrev pub decreases-loop-k : goal.decreases-loop-k
decreases-loop-k g l = length l.table.nodes.items - l.from
