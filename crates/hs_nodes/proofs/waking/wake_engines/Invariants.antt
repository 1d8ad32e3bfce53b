use Rattle.hs_nodes.proofs.StartingLemmas.{AreStartsTo}
use Rattle.hs_nodes.proofs.WakeLemmas.{AreLookedAt}
use Rattle.hs_waking.specs.ChunkWords.{AreOfChunk}
use Rattle.hs_waking.specs.FitStacks.{IsStackOf}
use Rattle.hs_nodes.proofs.waking.wake_engines.Given as goal

abbrev pub invariant-loop-i : goal.invariant-loop-i
invariant-loop-i g l = record {
  looked : AreLookedAt g.E.Engine.meaning l.graph.table l.graph.wakes.first_engines.items l.spent.chunk.now.prev l.spent.chunk.now.bytes.now l.fn.marks l.marks l.i;
  chunk : AreOfChunk l.words l.graph.wakes.sets.items l.spent.chunk.now.bytes.now;
  levels : IsStackOf l.stack l.graph.wakes.sets.items l.spent.chunk.now.prev l.spent.chunk.now.bytes.now;
  starts : AreStartsTo g.E.Engine.meaning l.graph.table l.cache l.graph.wakes.first_engines.items l.spent.chunk.now.prev l.spent.chunk.now.bytes.now l.starts l.i;
}
