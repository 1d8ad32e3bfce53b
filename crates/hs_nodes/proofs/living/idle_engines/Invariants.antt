use Rattle.hs_nodes.proofs.LivingLemmas.{AreIdleTo}
use Rattle.hs_nodes.proofs.living.idle_engines.Given as goal

abbrev pub invariant-loop-k : goal.invariant-loop-k
invariant-loop-k g l = AreIdleTo g.E.Engine.meaning l.engines l.k
