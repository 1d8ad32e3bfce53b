use Rattle.hs_compile.specs.GraphNodes.{AreNodesTo}
use Rattle.hs_compile.specs.GraphSteps.{IsForestFor}
use Rattle.hs_compile.specs.GraphTables.{IsReady}
use Rattle.hs_rose.specs.Programs.{Tables}
use Rattle.hs_compile.proofs.node_lists.NodeLists.of_steps.Given as goal

abbrev pub invariant-loop-k : goal.invariant-loop-k
invariant-loop-k l = (t : Tables) (f : IsForestFor t l.steps l.forest) → IsReady t →
    AreNodesTo t l.layout l.steps l.forest.nodes l.forest.parents f.forest_is.paths l.k l.lists
