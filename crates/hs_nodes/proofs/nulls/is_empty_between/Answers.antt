use Rattle.std.proofs.Common.{Option, subst}
use Rattle.hs_base.specs.declared.context.Mask.{Mask}
use Rattle.hs_nodes.specs.Contexts.{IsNull}
use Rattle.hs_nodes.proofs.LookLemmas.{mask-between, never-between}
use Rattle.hs_nodes.proofs.nulls.is_empty_between.Goals as goal

pub returns-in-None : goal.returns-in-None
returns-in-None c tree u null stands = never-between tree u c.args.next (subst (λ (n : Option Mask). IsNull n tree) c.in-None.is null)

pub returns-in-Some : goal.returns-in-Some
returns-in-Some c tree u null stands = mask-between tree c.in-Some.mask u c.args.prev c.args.next c.contains.result (subst (λ (n : Option Mask). IsNull n tree) c.in-Some.is null) stands c.contains.ensures
