use Rattle.hs_forest.proofs.LawLemmas.{one-node}
use Rattle.hs_forest.proofs.laws.equal_beginnings_are_one_node.Goals as goal

pub returns : goal.returns
returns c = one-node
