use Rattle.std.proofs.Common.{ℕ, ◌<◌}
use Rattle.hs_waking.specs.Fits.{FitsAt}
use Rattle.hs_waking.proofs.plain.fits_plain.Given as goal

abbrev pub invariant-loop-place : goal.invariant-loop-place
invariant-loop-place l = (i : ℕ) → i < l.place → FitsAt l.behind l.row l.prev l.bytes i → ⊥
