use Rattle.hs_bits.specs.BlockContexts.{AreClasses}
use Rattle.hs_bits.proofs.contexts.Classes.with_rest.Given as goal

abbrev pub invariant-loop-place : goal.invariant-loop-place
invariant-loop-place l = AreClasses l.classes l.bytes l.place
