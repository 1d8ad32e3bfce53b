use Rattle.std.proofs.Common.{◌+◌, refl}
use Rattle.hs_nodes.proofs.LoneLemmas.{lone-more}
use Rattle.hs_nodes.proofs.lone.LoneNodes.of_graph.Goals as goal

pub loop-k-preserved : goal.loop-k-preserved
loop-k-preserved g c = lone-more c.args.graph.now c.loop-k.identifiers.items c.push.new.self.items c.loop-k.k (c.loop-k.k + 1) c.lone_identifier.result refl c.in_ok-push.ensures.items c.lone_identifier.ensures.lone c.lone_identifier.ensures.owned c.loop-k.invariant
