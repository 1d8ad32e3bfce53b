use Rattle.std.proofs.Common.{◌≡◌, ◌<◌, ℕ, List, length, slice_get, Some}
use Rattle.hs_base.specs.Contexts.{prev_at}
use Rattle.hs_bits.specs.BlockContexts.{AreContexts}
use Rattle.hs_bits.specs.declared.contexts.Contexts.{Contexts}
use Rattle.hs_nodes.specs.Blocks.{EndsBehind, block, front}
use Rattle.hs_nodes.proofs.nulls.chunk_contexts.Given as goal

abbrev pub invariant-loop-j : goal.invariant-loop-j
invariant-loop-j l = record {
  count : length l.contexts.items ≡ l.j;
  each : (i : ℕ) → i < l.j → (d : Contexts) × (slice_get l.contexts.items i ≡ Some d) × ((u : List ℕ) → EndsBehind u l.chunk.prev l.chunk.at →
      AreContexts d (prev_at (front u l.chunk.bytes.now i) (length (front u l.chunk.bytes.now i))) (block l.chunk.bytes.now i));
}
