use Rattle.std.proofs.Common.{ℕ, List}
use Rattle.hs_forest.specs.Growing.{IsBuilt, IsBuiltTo}
use Rattle.hs_forest.proofs.builder.Builder.add_chain.Given as goal

abbrev pub invariant-loop-key : goal.invariant-loop-key
invariant-loop-key l = (chains : List (List ℕ)) → IsBuilt l.initial.self chains → IsBuiltTo l.self chains l.chain l.key-index l.last
