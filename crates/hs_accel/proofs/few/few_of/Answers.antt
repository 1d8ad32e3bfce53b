use Rattle.std.proofs.Common.{◌∷◌, sym, ap, ◌∙◌}
use Rattle.hs_accel.proofs.FewLemmas.{has-is_in, has_one, has_two, has_three}
use Rattle.hs_accel.proofs.few.few_of.Goals as goal

pub returns-in_default : goal.returns-in_default
returns-in_default c = has-is_in c.args.set.now _ (sym c.iter-members.ensures ∙ c.in_default.ensures.steps.0)

pub returns-in_default-next : goal.returns-in_default-next
returns-in_default-next c =
    let x = c.in-Some.first in
    has_one c.args.set.now x (sym c.iter-members.ensures ∙ c.in-Some.ensures.steps ∙ ap (λ xs. x ∷ xs) c.in_default-next.ensures.steps.0)

pub returns-in_default-next-2 : goal.returns-in_default-next-2
returns-in_default-next-2 c =
    let x = c.in-Some.first in
    let y = c.in-Some-next.second in
    has_two c.args.set.now x y (sym c.iter-members.ensures ∙ c.in-Some.ensures.steps ∙ ap (λ xs. x ∷ xs) (c.in-Some-next.ensures.steps ∙ ap (λ xs. y ∷ xs) c.in_default-next-2.ensures.steps.0))

pub returns-in-None : goal.returns-in-None
returns-in-None c =
    let x = c.in-Some.first in
    let y = c.in-Some-next.second in
    let z = c.in-Some-next-2.third in
    has_three c.args.set.now x y z (sym c.iter-members.ensures ∙ c.in-Some.ensures.steps ∙ ap (λ xs. x ∷ xs) (c.in-Some-next.ensures.steps ∙ ap (λ xs. y ∷ xs) (c.in-Some-next-2.ensures.steps ∙ ap (λ xs. z ∷ xs) c.in-None.ensures.steps.0)))
