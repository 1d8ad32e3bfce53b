use Rattle.std.proofs.Common.{◌≡◌, ◌+◌}
use Rattle.hs_base.specs.ByteSets.{members}
use Rattle.hs_base.specs.Spans.{IsByteOf}
use Rattle.hs_plain.specs.OffsetSets.{AddsOffsets}
use Rattle.hs_plain.proofs.OffsetLemmas.{FromBelow}
use Rattle.hs_plain.proofs.ends.class_ends.Given as goal

abbrev pub invariant-loop-at : goal.invariant-loop-at
invariant-loop-at l = AddsOffsets (FromBelow (λ i j. IsByteOf (members l.set) l.stream i × (j ≡ i + 1)) l.starts l.at) l.initial.ends l.ends
