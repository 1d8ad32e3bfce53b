use Rattle.std.proofs.Common.{◌≡◌}
use Rattle.hs_base.specs.Assertions.{Holds}
use Rattle.hs_plain.specs.OffsetSets.{AddsOffsets}
use Rattle.hs_plain.proofs.OffsetLemmas.{FromBelow}
use Rattle.hs_plain.proofs.ends.assertion_ends.Given as goal

abbrev pub invariant-loop-at : goal.invariant-loop-at
invariant-loop-at l = AddsOffsets (FromBelow (λ i j. (i ≡ j) × Holds l.stream l.ended l.assertion i) l.starts l.at) l.initial.ends l.ends
