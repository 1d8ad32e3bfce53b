use Rattle.std.proofs.Common.{Option, sym, subst, ◌∙◌}
use Rattle.hs_base.specs.declared.context.Mask.{Mask}
use Rattle.hs_nodes.specs.Contexts.{IsNull}
use Rattle.hs_nodes.proofs.PastLemmas.{mask-apart}
use Rattle.hs_nodes.proofs.nulls.is_empty_at_start.Goals as goal

pub returns-in-None : goal.returns-in-None
returns-in-None c tree u next null told some empty = (subst (λ (n : Option Mask). IsNull n tree) c.in-None.is null) u next empty

pub returns-in-Some : goal.returns-in-Some
returns-in-Some c tree u next null told some empty =
    mask-apart tree c.in-Some.mask c.intersection.result c.of.result u next (subst (λ (n : Option Mask). IsNull n tree) c.in-Some.is null) c.of.ensures c.intersection.ensures (sym c.eq.ensures ∙ told) some empty
