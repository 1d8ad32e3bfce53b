use Rattle.hs_states.specs.PackedSets.{AreSetsTo}
use Rattle.hs_states.proofs.state_sets.sets_of.Given as goal

abbrev pub invariant-loop-number : goal.invariant-loop-number
invariant-loop-number l = AreSetsTo l.width l.states l.number l.sets.items
