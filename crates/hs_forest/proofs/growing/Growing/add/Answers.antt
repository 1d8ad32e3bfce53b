use Rattle.std.proofs.Common.{arith}
use Rattle.hs_forest.proofs.GrowingLemmas.{grown-added}
use Rattle.hs_forest.proofs.growing.Growing.add.Goals as goal

pub returns : goal.returns
returns c = λ paths front.
    grown-added c.args.self.now _ paths c.args.parent c.args.key c.in_ok-node.node front c.requires (omega (arith, c.in_ok-node.ensures, c.len.ensures, c.args.self.now.keys.ok.0)) c.in_ok-push.ensures.items c.in_ok-push-2.ensures.items c.in_ok-insert.ensures.updates
