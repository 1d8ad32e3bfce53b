use Rattle.std.proofs.Common.{◌≡◌, get_or, slice_get}
use Rattle.hs_bits.specs.BlockContexts.{prev_before}
use Rattle.hs_waking.specs.ChunkWords.{AreOfChunk}
use Rattle.hs_waking.specs.PrevSets.{has_prev}
use Rattle.hs_waking.specs.FitStacks.{AreOpen}
use Rattle.hs_waking.proofs.fitting.fit_places.Given as goal

abbrev pub invariant-loop-depth : goal.invariant-loop-depth
invariant-loop-depth l = record {
  count : l.words.count ≡ l.initial.words.count;
  chunk : AreOfChunk l.words l.sets l.bytes;
  places : AreOpen (λ p. has_prev l.row.behind (prev_before l.fn.prev l.bytes p)) (λ d. slice_get l.sets (get_or l.numbers d 0)) l.bytes l.depth l.places;
}
