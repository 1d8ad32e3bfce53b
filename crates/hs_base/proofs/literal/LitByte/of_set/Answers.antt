use Rattle.std.proofs.Common.{◌∷◌, [], ◌∙◌, ap, sym}
use Rattle.hs_base.proofs.LiteralLemmas.{literal-members, one-literal}
use Rattle.hs_base.proofs.literal.LitByte.of_set.Goals as goal

pub returns-in-None : goal.returns-in-None
returns-in-None c = literal-members c.args.set.now _ (sym c.iter-members.ensures ∙ c.in-None.ensures.steps.0)

pub returns-in-None-next : goal.returns-in-None-next
returns-in-None-next c =
    one-literal c.one.result.byte c.in-Some.byte c.one.result.both_cases c.one.ensures.byte c.one.ensures.case
    ∙ literal-members c.args.set.now (c.in-Some.byte ∷ [])
    (sym c.iter-members.ensures ∙ c.in-Some.ensures.steps ∙ ap (λ xs. c.in-Some.byte ∷ xs) c.in-None-next.ensures.steps.0)

pub returns-in-Some-next-2 : goal.returns-in-Some-next-2
returns-in-Some-next-2 c =
    literal-members c.args.set.now _
    (sym c.iter-members.ensures ∙ c.in-Some.ensures.steps
    ∙ ap (λ xs. c.in-Some.byte ∷ xs) (c.in-Some-next.ensures.steps ∙ ap (λ xs. c.in-Some-next.byte ∷ xs) c.in-Some-next-2.ensures.steps))

pub returns-in-None-next-2 : goal.returns-in-None-next-2
returns-in-None-next-2 c =
    c.of_cases.ensures
    ∙ literal-members c.args.set.now (c.in-Some.byte ∷ c.in-Some-next.byte ∷ [])
    (sym c.iter-members.ensures ∙ c.in-Some.ensures.steps
    ∙ ap (λ xs. c.in-Some.byte ∷ xs) (c.in-Some-next.ensures.steps ∙ ap (λ xs. c.in-Some-next.byte ∷ xs) c.in-None-next-2.ensures.steps.0))
