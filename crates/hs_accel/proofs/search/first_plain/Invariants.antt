use Rattle.hs_base.specs.ByteSets.{has}
use Rattle.hs_accel.specs.Places.{NonePasses}
use Rattle.hs_accel.proofs.search.first_plain.Given as goal

abbrev pub invariant-loop-at : goal.invariant-loop-at
invariant-loop-at l = NonePasses (has l.set) l.bytes l.from l.at
