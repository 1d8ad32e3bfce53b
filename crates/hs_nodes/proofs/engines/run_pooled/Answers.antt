use Rattle.std.proofs.Common.{Option, Some, subst, sym}
use Rattle.hs_pool.specs.declared.pool.StatePool.{StatePool}
use Rattle.hs_nodes.specs.Pooled.{KeepsPooled}
use Rattle.hs_nodes.proofs.PooledLemmas.{keeps-some, pooled-idle, pooled-some}
use Rattle.hs_nodes.proofs.engines.run_pooled.Goals as goal

pub run-requires-clause-idle : goal.run-requires-clause-idle
run-requires-clause-idle g c = pooled-idle (g.E.Engine.meaning c.args.numbered.now.engine.now) c.requires.idle

pub returns-clause-pool : goal.returns-clause-pool
returns-clause-pool g c = pooled-some (g.E.Engine.meaning c.args.numbered.now.engine.now) c.args.numbered.now.number c.run.new.self c.run.ensures.pool

pub returns-clause-others : goal.returns-clause-others
returns-clause-others g c =
    subst (λ (p : Option StatePool). KeepsPooled g.E.Engine.meaning c.args.numbered.now.number p (Some c.run.new.self)) (sym c.in-Some.is)
    (keeps-some g.E.Engine.meaning c.args.numbered.now.number c.in-Some.pool c.run.new.self c.run.ensures.others)

pub returns-in_default-run-clause-pool : goal.returns-in_default-run-clause-pool
returns-in_default-run-clause-pool g c = pooled-some (g.E.Engine.meaning c.args.numbered.now.engine.now) c.args.numbered.now.number c.run.new.self c.run.ensures.pool

pub returns-in_default-run-clause-others : goal.returns-in_default-run-clause-others
returns-in_default-run-clause-others g c =
    subst (λ (p : Option StatePool). KeepsPooled g.E.Engine.meaning c.args.numbered.now.number p (Some c.run.new.self)) (sym c.in-Some.is)
    (keeps-some g.E.Engine.meaning c.args.numbered.now.number c.in-Some.pool c.run.new.self c.run.ensures.others)
