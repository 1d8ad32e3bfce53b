use Rattle.hs_nodes.proofs.NodeLemmas.{unmarked-before}
use Rattle.hs_scan.proofs.WakingLemmas.{chunk-unwoken}
use Rattle.hs_scan.proofs.waking.wake.Goals as goal

pub returns-clause-unwoken : goal.returns-clause-unwoken
returns-clause-unwoken g c =
    chunk-unwoken g.E.Engine.meaning c.args.graph.now c.args.rows.now c.run_cached.new.marks c.wake_literals.new.marks c.wake_engines.new.marks c.args.spent.now.chunk.now.prev c.args.spent.now.chunk.now.bytes.now c.requires.wakes c.wake_literals.ensures.woken c.wake_engines.ensures.more c.wake_engines.ensures.asleep

pub wake_engines-requires-clause-told : goal.wake_engines-requires-clause-told
wake_engines-requires-clause-told g c k t node is there none =
    c.run_cached.ensures.asleep k t node is there (unmarked-before c.run_cached.new.marks c.wake_literals.new.marks k c.wake_literals.ensures.more.kept none)
