use Rattle.std.proofs.Common.{◌≡◌, ◌+◌, ◌*◌, ◌≤◌, length, take}
use Rattle.hs_base.specs.Regions.{IsHeader, region_offset}
use Rattle.hs_reports.specs.Events.{Takes}
use Rattle.hs_run.specs.Feeding.{Feeds, FitsRegion}
use Rattle.hs_run.specs.Scratches.{FitsScratch}
use Rattle.hs_run.proofs.runner.feed.Given as goal

abbrev pub invariant-loop-place : goal.invariant-loop-place
invariant-loop-place g l = record {
  scratch : FitsScratch l.program l.scratch;
  region : FitsRegion l.program l.layout l.region;
  header : IsHeader l.layout.singles l.layout.identifiers l.fn.region → IsHeader l.layout.singles l.layout.identifiers l.region;
  offset : region_offset l.region ≡ region_offset l.fn.region + l.place;
  ticks : l.steps ≤ l.fn.steps + 16 * (length l.program.roles * l.place);
  taken : Takes g.V.Events.tells l.fn.events l.events (Feeds l.program l.fn.region l.region (take l.place l.bytes));
}
