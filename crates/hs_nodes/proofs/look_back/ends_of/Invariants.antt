use Rattle.std.proofs.Common.{◌≡◌, ◌<◌, ℕ, List, length, slice_index}
use Rattle.hs_base.specs.Chains.{Piece}
use Rattle.hs_nodes.specs.Blocks.{block, front}
use Rattle.hs_nodes.specs.Left.{AreLeft}
use Rattle.hs_nodes.specs.LookBacks.{AreLeftAt}
use Rattle.hs_nodes.proofs.RunLemmas.{AreNowhereFrom}
use Rattle.hs_nodes.proofs.look_back.ends_of.Given as goal

abbrev pub invariant-loop-j : goal.invariant-loop-j
invariant-loop-j l = record {
  befores : length l.ends.before ≡ 8;
  behinds : length l.ends.behind ≡ 8;
  nowhere : AreNowhereFrom l.j l.ends;
  told : (pieces : List Piece) (u : List ℕ) → AreLeftAt l.left pieces u l.chunk.bytes.now → (k : ℕ) → k < l.j → AreLeft pieces (front u l.chunk.bytes.now k) (block l.chunk.bytes.now k) (slice_index l.ends.before k) (slice_index l.ends.behind k);
}
