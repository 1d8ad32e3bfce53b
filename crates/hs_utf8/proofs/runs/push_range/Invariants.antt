use Rattle.std.proofs.Common.{ℕ, ◌+◌, ◌-◌, ◌≤◌, Bool, max, map}
use Rattle.hs_expr.specs.Meaning.{tree_of}
use Rattle.hs_utf8.specs.Lowered.{ascii_end}
use Rattle.hs_utf8.specs.Steps.{IsStretch, AddsRuns}
use Rattle.hs_utf8.proofs.runs.push_range.Given as goal

abbrev pub invariant-loop-from : goal.invariant-loop-from
invariant-loop-from l = record {
  above : max l.first ascii_end ≤ l.from;
  below : l.from ≤ max (l.last + 1) ascii_end;
  added : (member : ℕ → Bool) → IsStretch member l.first l.last →
      AddsRuns member (max l.first ascii_end) l.from (map tree_of l.initial.parts.items) (map tree_of l.parts.items);
}

abbrev pub decreases-loop-from : goal.decreases-loop-from
decreases-loop-from l = l.last + 1 - l.from
