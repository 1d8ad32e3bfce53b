use Rattle.std.proofs.Common.{◌≤◌, ◌-◌, length}
use Rattle.hs_base.specs.ByteSets.{has}
use Rattle.hs_accel.specs.Places.{NonePasses}
use Rattle.hs_accel.proofs.search.first_by_blocks.Given as goal

abbrev pub invariant-loop-at : goal.invariant-loop-at
invariant-loop-at l = (l.from ≤ l.at) × (l.at ≤ length l.bytes) × NonePasses (has l.set) l.bytes l.from l.at

abbrev pub decreases-loop-at : goal.decreases-loop-at
decreases-loop-at l = length l.bytes - l.at
