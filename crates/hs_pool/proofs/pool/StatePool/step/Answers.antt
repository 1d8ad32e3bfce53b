use Rattle.std.proofs.Common.{◌≡◌, Some, slice_get, sym, subst, ◌∙◌, arith}
use Rattle.hs_pool.specs.Pools.{IsStep}
use Rattle.hs_pool.specs.Rows.{step_at}
use Rattle.hs_pool.proofs.pool.StatePool.step.Goals as goal

pub returns-then-next-ne0-clause-next : goal.returns-then-next-ne0-clause-next
returns-then-next-ne0-clause-next g c =
    let own = c.requires.state in
    let pool = c.args.self.now in
    let is : IsStep (g.E.Engine.meaning c.args.engine.now) pool.states.items own.state c.args.enters c.args.byte (step_at pool.rows.items c.args.state c.args.enters c.args.byte) =
    c.requires.pool c.args.state own.state c.args.enters c.args.byte own.is own.engine_is (omega (arith, c.ranges.byte.fits)) (λ none. c.if-next-ne0.true (c.next-next.ensures ∙ none)) in
    record {
      state = is.next;
      is = subst (λ n. slice_get pool.states.items n ≡ Some is.next) (sym c.next-next.ensures) is.is;
      engine_is = is.engine_is ∙ own.engine_is;
      some = c.if-next-ne0.true;
    }
