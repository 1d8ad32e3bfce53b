use Rattle.std.proofs.Common.{◌≤◌, length}
use Rattle.std.specs.Prelude.{slice_index}
use Rattle.hs_nodes.specs.Waking.{HavePlaces}
use Rattle.hs_waking.specs.ChunkWords.{AreOfChunk}
use Rattle.hs_waking.specs.FitStacks.{IsStackOf}
use Rattle.hs_nodes.proofs.waking.start_places.Given as goal

abbrev pub invariant-loop-i : goal.invariant-loop-i
invariant-loop-i l = record {
  room : length l.wakes.sets.items ≤ l.words.count;
  chunk : AreOfChunk l.words l.wakes.sets.items l.chunk.bytes.now;
  levels : IsStackOf l.stack l.wakes.sets.items l.chunk.prev l.chunk.bytes.now;
  places : HavePlaces l.wakes.rows.items l.wakes.sets.items (slice_index l.wakes.row_starts.items l.place) l.i l.chunk.prev l.chunk.bytes.now l.places;
}
