use Rattle.std.proofs.Common.{◌≡◌, ◌+◌, ◌-◌, ◌≤◌, length}
use Rattle.hs_nodes.proofs.CatchLemmas.{CatchesTo}
use Rattle.hs_nodes.proofs.catching_up.catch_up.Given as goal

abbrev pub invariant-loop-from : goal.invariant-loop-from
invariant-loop-from g l = record {
  len : length l.region ≡ (g.E.Engine.meaning l.engine).width;
  well : (g.E.Engine.meaning l.engine).well l.region (l.chunk.at + l.from);
  low : l.from ≤ length l.chunk.bytes.now;
  steps : l.steps ≤ l.fn.steps + l.from;
  catches : CatchesTo (g.E.Engine.meaning l.engine) l.fn.region l.region l.chunk.prev l.chunk.at l.chunk.bytes.now l.from;
}

abbrev pub decreases-loop-from : goal.decreases-loop-from
decreases-loop-from g l = length l.chunk.bytes.now - l.from
