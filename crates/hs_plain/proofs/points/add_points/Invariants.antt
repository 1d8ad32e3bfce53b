use Rattle.std.proofs.Common.{take}
use Rattle.hs_base.specs.Spans.{IsPointOf}
use Rattle.hs_plain.specs.OffsetSets.{AddsOffsets}
use Rattle.hs_plain.proofs.points.add_points.Given as goal

abbrev pub invariant-loop-i : goal.invariant-loop-i
invariant-loop-i l = AddsOffsets (IsPointOf (take l.i l.ranges) l.stream l.at) l.initial.ends l.ends
