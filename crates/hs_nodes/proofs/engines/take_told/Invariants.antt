use Rattle.std.proofs.Common.{◌≡◌, ◌<◌, ℕ, Some, length, slice_index}
use Rattle.hs_lazy.specs.Caches.{Told, told}
use Rattle.hs_nodes.specs.Starting.{IsToldIn}
use Rattle.hs_nodes.proofs.RunLemmas.{AreNowhereFrom}
use Rattle.hs_nodes.proofs.engines.take_told.Given as goal

abbrev pub invariant-loop-j : goal.invariant-loop-j
invariant-loop-j l = record {
  befores : length l.ends.before ≡ 8;
  behinds : length l.ends.behind ≡ 8;
  nowhere : AreNowhereFrom l.j l.ends;
  tells : (t : Told) → told l.cache l.k ≡ Some t → (i : ℕ) → i < l.j → IsToldIn l.chunk.bytes.now t i (slice_index l.ends.before i) (slice_index l.ends.behind i);
}
