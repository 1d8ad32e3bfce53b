use Rattle.std.proofs.Common.{◌≡◌, ◌<◌, ℕ, List, length, slice_index, Some}
use Rattle.hs_base.specs.Trees.{Tree}
use Rattle.hs_nodes.specs.Blocks.{EndsBehind, block, front}
use Rattle.hs_nodes.specs.Contexts.{IsNull}
use Rattle.hs_nodes.specs.Pieces.{AreEmptyAt}
use Rattle.hs_nodes.proofs.RunLemmas.{AreNowhereFrom}
use Rattle.hs_nodes.proofs.nulls.mask_ends.Given as goal

abbrev pub invariant-loop-j : goal.invariant-loop-j
invariant-loop-j l = record {
  befores : length l.ends.before ≡ 8;
  behinds : length l.ends.behind ≡ 8;
  nowhere : AreNowhereFrom l.j l.ends;
  told : (tree : Tree) (u : List ℕ) → IsNull (Some l.mask) tree → EndsBehind u l.chunk.prev l.chunk.at → (i : ℕ) → i < l.j →
      AreEmptyAt tree (front u l.chunk.bytes.now i) (block l.chunk.bytes.now i) (slice_index l.enters.before i) (slice_index l.enters.behind i) (slice_index l.ends.before i) (slice_index l.ends.behind i);
}
