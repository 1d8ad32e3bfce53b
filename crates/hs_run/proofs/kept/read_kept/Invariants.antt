use Rattle.std.proofs.Common.{◌≡◌, ℕ, ◌<◌, length, Some, slice_get}
use Rattle.hs_run.specs.Keeping.{IsRead, singles_before}
use Rattle.hs_run.specs.declared.kept.Kept.{Kept}
use Rattle.hs_rose.specs.declared.identifiers.Identifier.{Identifier}
use Rattle.hs_run.proofs.kept.read_kept.Given as goal

abbrev pub invariant-loop-i : goal.invariant-loop-i
invariant-loop-i l = record {
  len : length l.kept ≡ length l.fn.kept;
  single : l.single ≡ singles_before l.identifiers l.i;
  read : (j : ℕ) (y : Identifier) (z : Kept) → j < l.i → slice_get l.identifiers j ≡ Some y → slice_get l.kept j ≡ Some z → IsRead l.layout l.region y j (singles_before l.identifiers j) z;
}
