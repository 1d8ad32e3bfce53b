use Rattle.hs_states.specs.PackedSets.{ArePrevsTo}
use Rattle.hs_states.proofs.state_sets.prevs_of.Given as goal

abbrev pub invariant-loop-number : goal.invariant-loop-number
invariant-loop-number l = ArePrevsTo l.states l.number l.prevs.items
