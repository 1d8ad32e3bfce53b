use Rattle.std.proofs.Common.{map}
use Rattle.hs_expr.specs.Meaning.{tree_of}
use Rattle.hs_utf8.specs.Steps.{AddsRanges}
use Rattle.hs_utf8.proofs.runs.push_runs.Given as goal

abbrev pub invariant-loop-range : goal.invariant-loop-range
invariant-loop-range l =
    AddsRanges l.class.ranges.items l.range-index (map tree_of l.initial.parts.items) (map tree_of l.parts.items)
