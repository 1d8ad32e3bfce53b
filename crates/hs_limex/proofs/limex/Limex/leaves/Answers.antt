use Rattle.std.proofs.Common.{◌≡◌, length, subst, sym, refl}
use Rattle.hs_base.specs.Bits.{has_bit}
use Rattle.hs_base.specs.Contexts.{Context, context_of, prev_at}
use Rattle.hs_base.proofs.StreamContexts.{same-context}
use Rattle.hs_limex.specs.Fitting.{AcceptsIn}
use Rattle.hs_limex.specs.LimexEngines.{moves_of_limex}
use Rattle.hs_limex.proofs.LimexLemmas.{accepts-leaves}
use Rattle.hs_limex.proofs.limex.Limex.leaves.Goals as goal

pub returns : goal.returns
returns c tree u entered is len prev field next =
    let t = moves_of_limex c.args.self.now in
    let region = c.args.region.now in
    let same : ◌≡◌ {A = Context} (record { prev = c.args.prev; next = next }) (context_of u next) = same-context c.args.prev (prev_at u (length u)) next next prev refl in (
      λ told. (accepts-leaves t tree is u entered region field next).0 (subst (AcceptsIn t (has_bit region)) same (c.accepted.ensures.sound next told)),
      λ leaves. c.accepted.ensures.whole next (subst (AcceptsIn t (has_bit region)) (sym same) ((accepts-leaves t tree is u entered region field next).1 leaves)),
    )
