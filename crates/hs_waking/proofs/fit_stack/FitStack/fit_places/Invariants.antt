use Rattle.std.proofs.Common.{◌≡◌, ◌+◌}
use Rattle.hs_waking.specs.ChunkWords.{AreOfChunk}
use Rattle.hs_waking.specs.FitStacks.{IsStackOf}
use Rattle.hs_waking.proofs.fit_stack.FitStack.fit_places.Given as goal

abbrev pub invariant-loop-depth : goal.invariant-loop-depth
invariant-loop-depth l = record {
  count : l.words.count ≡ l.initial.words.count;
  chunk : AreOfChunk l.words l.sets l.bytes;
  row : l.self.row ≡ l.row;
  known : l.self.count ≡ l.depth + 1;
  levels : IsStackOf l.self l.sets l.fn.prev l.bytes;
}
