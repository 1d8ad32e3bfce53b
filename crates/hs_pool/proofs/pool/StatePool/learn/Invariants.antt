use Rattle.hs_pool.specs.Pools.{IsPoolAt, KeepsOthers}
use Rattle.hs_pool.specs.Running.{AreStatesKept, IsStateFor}
use Rattle.hs_pool.proofs.pool.StatePool.learn.Given as goal

abbrev pub invariant-loop-place : goal.invariant-loop-place
invariant-loop-place g l = record {
  pool : IsPoolAt (g.E.Engine.meaning l.engine) l.number l.self;
  others : KeepsOthers g.E.Engine.meaning l.number l.fn.self l.self;
  still : AreStatesKept l.fn.self l.self;
  state : IsStateFor l.self.states.items l.state l.number;
}
