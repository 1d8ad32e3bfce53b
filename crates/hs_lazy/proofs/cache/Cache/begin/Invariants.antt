use Rattle.std.proofs.Common.{◌≡◌, ℕ, ◌<◌, length, Some, slice_get}
use Rattle.hs_base.specs.Bits.{AreZero}
use Rattle.hs_lazy.specs.declared.parts.Run.{Run}
use Rattle.hs_lazy.proofs.cache.Cache.begin.Given as goal

abbrev pub invariant-loop-run : goal.invariant-loop-run
invariant-loop-run l = record {
  len : length l.run-items ≡ length l.fn.self.runs.items;
  zero : (i : ℕ) (run : Run) → i < l.run-index → slice_get l.run-items i ≡ Some run → AreZero run.image;
  sized : (i : ℕ) (run : Run) → slice_get l.run-items i ≡ Some run → (old : Run) × (slice_get l.fn.self.runs.items i ≡ Some old) × (length run.image ≡ length old.image);
}
