use Rattle.std.proofs.Common.{slice_get}
use Rattle.hs_waking.specs.Fits.{FitsTo}
use Rattle.hs_waking.proofs.plain.fits_at.Given as goal

abbrev pub invariant-loop-depth : goal.invariant-loop-depth
invariant-loop-depth l = FitsTo (slice_get l.row) l.bytes l.depth l.fn.place
