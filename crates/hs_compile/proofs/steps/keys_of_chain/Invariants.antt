use Rattle.std.proofs.Common.{◌≡◌, ℕ, List, length}
use Rattle.hs_compile.specs.GraphSteps.{AreStepsOfChains, AreStepsWithin}
use Rattle.hs_compile.proofs.steps.keys_of_chain.Given as goal

abbrev pub invariant-loop-i : goal.invariant-loop-i
invariant-loop-i l = (before : List (List ℕ)) → length before ≡ l.number →
    AreStepsOfChains l.program before l.fn.list.items →
    AreStepsWithin l.program before l.number l.chain l.i l.keys.items l.list.items
