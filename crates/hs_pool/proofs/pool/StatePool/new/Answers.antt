use Rattle.std.proofs.Common.{length}
use Rattle.hs_pool.proofs.BlankLemmas.{unknown-leading, unknown-steps}
use Rattle.hs_pool.proofs.TableLemmas.{longer}
use Rattle.hs_pool.proofs.pool.StatePool.new.Goals as goal

pub invariant_of-result-clause-leading : goal.invariant_of-result-clause-leading
invariant_of-result-clause-leading g c =
    unknown-leading _ (length c.push.new.self.items) (longer c.in_ok-states.states.items c.push.new.self.items _ c.push.result c.in_ok-push.field-0 c.push.ensures.items c.in_ok-push.was) c.in_ok-sink_rows.ensures.none

pub invariant_of-result-clause-sink : goal.invariant_of-result-clause-sink
invariant_of-result-clause-sink g c = c.in_ok-sink_rows.ensures.none 0

pub returns : goal.returns
returns g c n e there = unknown-steps (g.E.Engine.meaning e) n c.push.new.self.items _ c.in_ok-sink_rows.ensures.none
