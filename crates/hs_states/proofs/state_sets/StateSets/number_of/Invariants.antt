use Rattle.std.proofs.Common.{ℕ, ◌<◌}
use Rattle.hs_states.specs.StateSets.{IsStateNumber}
use Rattle.hs_states.proofs.state_sets.StateSets.number_of.Given as goal

abbrev pub invariant-loop-number : goal.invariant-loop-number
invariant-loop-number l = (k : ℕ) → k < l.number → IsStateNumber l.self l.set l.fn.prev k → ⊥
