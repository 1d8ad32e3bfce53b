use Rattle.hs_compile.specs.GraphSteps.{AreChainsStepped}
use Rattle.hs_compile.proofs.steps.Steps.of_program.Given as goal

abbrev pub invariant-loop-number : goal.invariant-loop-number
invariant-loop-number l = AreChainsStepped l.program l.number l.list.items l.builder
