use Rattle.hs_states.specs.AutomatonStates.{AreClassesTo}
use Rattle.hs_states.proofs.byte_classes.ByteClasses.build.Given as goal

abbrev pub invariant-loop-byte : goal.invariant-loop-byte
invariant-loop-byte l = AreClassesTo l.automaton l.built.classes l.built.firsts.items l.built.footings.items l.byte
