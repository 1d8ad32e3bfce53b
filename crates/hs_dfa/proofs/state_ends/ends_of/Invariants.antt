use Rattle.hs_dfa.specs.StateEnds.{AreEndsOf}
use Rattle.hs_dfa.proofs.state_ends.ends_of.Given as goal

abbrev pub invariant-loop-number : goal.invariant-loop-number
invariant-loop-number l = AreEndsOf l.automaton l.states l.number l.ends.items
