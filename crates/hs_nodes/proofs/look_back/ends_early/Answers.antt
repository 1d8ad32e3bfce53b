use Rattle.hs_nodes.specs.LookBacks.{by_last, by_start}
use Rattle.hs_nodes.proofs.PastLemmas.{empty-last}
use Rattle.hs_nodes.proofs.look_back.ends_early.Goals as goal

pub returns-then-is_start : goal.returns-then-is_start
returns-then-is_start c told offset byte small far = by_start far (c.is_start.ensures c.if-is_start.true)

pub returns : goal.returns
returns c told offset byte small far = by_last (empty-last c.args.pair.now.last c.eq.result c.eq.ensures told byte small)
