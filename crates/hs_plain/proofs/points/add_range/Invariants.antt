use Rattle.hs_plain.specs.OffsetSets.{AddsOffsets}
use Rattle.hs_plain.proofs.PointLemmas.{IsPointBelow}
use Rattle.hs_plain.proofs.points.add_range.Given as goal

abbrev pub invariant-loop-code_point : goal.invariant-loop-code_point
invariant-loop-code_point l = AddsOffsets (IsPointBelow l.first l.last l.code_point l.stream l.at) l.initial.ends l.ends
