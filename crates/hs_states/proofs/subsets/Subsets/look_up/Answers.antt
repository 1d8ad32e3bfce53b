use Rattle.std.proofs.Common.{refl, subst}
use Rattle.hs_states.specs.Footings.{IsLikeOne}
use Rattle.hs_states.specs.Subsets.{is_known}
use Rattle.hs_states.proofs.subsets.Subsets.look_up.Goals as goal

pub returns-in-Some-clause-entered : goal.returns-in-Some-clause-entered
returns-in-Some-clause-entered c =
    is_known c.in-Some.number refl refl (subst (λ xs. IsLikeOne xs c.args.one c.in-Some.number) c.deref.ensures.value c.in-Some.ensures)
