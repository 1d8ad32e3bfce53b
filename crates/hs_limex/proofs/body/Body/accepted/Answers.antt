use Rattle.std.proofs.Common.{◌≡◌, true, sym, subst}
use Rattle.hs_base.specs.Bits.{has_bit}
use Rattle.hs_base.specs.ContextSets.{has_next}
use Rattle.hs_base.specs.declared.context.Next.{Next}
use Rattle.hs_engine.specs.Between.{between}
use Rattle.hs_limex.specs.BodyMoves.{moves_of_body}
use Rattle.hs_limex.specs.Fitting.{AcceptsIn}
use Rattle.hs_limex.specs.declared.body.Body.{Body}
use Rattle.hs_limex.proofs.body.Body.accepted.Goals as goal

pub returns-in-Small-clause-whole : goal.returns-in-Small-clause-whole
returns-in-Small-clause-whole c =
    subst (λ (b : Body). (next : Next) → AcceptsIn (moves_of_body b) (has_bit c.args.region.now) (between c.args.prev next) → has_next c.accepted.result next ≡ true) (sym c.in-Small.is)
    (λ next. c.accepted.ensures.whole c.args.prev next)
