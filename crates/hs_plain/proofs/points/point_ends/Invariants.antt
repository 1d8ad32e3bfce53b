use Rattle.hs_base.specs.Spans.{IsPointOf}
use Rattle.hs_plain.specs.OffsetSets.{AddsOffsets}
use Rattle.hs_plain.proofs.OffsetLemmas.{FromBelow}
use Rattle.hs_plain.proofs.points.point_ends.Given as goal

abbrev pub invariant-loop-at : goal.invariant-loop-at
invariant-loop-at l = AddsOffsets (FromBelow (IsPointOf l.ranges l.stream) l.starts l.at) l.initial.ends l.ends
