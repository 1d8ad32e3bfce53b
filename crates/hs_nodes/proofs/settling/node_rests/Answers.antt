use Rattle.std.proofs.Common.{◌↔◌, IsTrue, subst}
use Rattle.hs_nodes.specs.Resting.{IsUnset}
use Rattle.hs_nodes.specs.Walks.{node_part}
use Rattle.hs_nodes.specs.declared.table.Node.{Node}
use Rattle.hs_nodes.proofs.KindLemmas.{one-value}
use Rattle.hs_nodes.proofs.settling.node_rests.Goals as goal

pub returns : goal.returns
returns g c node at =
    subst (λ (n : Node). IsTrue c.kind_rests.result ↔ IsUnset n.kind (node_part c.args.region.now n)) (one-value c.node_at-node.result node _ c.node_at-node.ensures at) c.kind_rests.ensures
