use Rattle.std.proofs.Common.{◌-◌, ◌≤◌}
use Rattle.hs_layout.specs.Layouts.{laid_size}
use Rattle.hs_scan.specs.Copying.{IsSpot}
use Rattle.hs_scan.proofs.MadeLemmas.{AreMadeTo}
use Rattle.hs_scan.proofs.copying.copy_fields.Given as goal

abbrev pub invariant-loop-place : goal.invariant-loop-place
invariant-loop-place g l = record {
  within : l.spot.from ≤ laid_size l.layout;
  spot : IsSpot l.graph l.layout l.spot;
  made : AreMadeTo l.graph l.layout l.fn.region l.region l.spot.from;
}

abbrev pub decreases-loop-place : goal.decreases-loop-place
decreases-loop-place g l = laid_size l.layout - l.spot.from
