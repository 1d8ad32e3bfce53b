use Rattle.std.proofs.Common.{◌+◌, ◌++◌, ◌∷◌, [], refl, sym, ◌∙◌, subst}
use Rattle.std.proofs.lemmas.Bool.{false≢true}
use Rattle.hs_compile.specs.declared.step.Step.{Step}
use Rattle.hs_compile.specs.GraphSteps.{AreStepsWithin}
use Rattle.hs_compile.proofs.StepLemmas.{step-added, step-passed}
use Rattle.hs_compile.proofs.steps.add_role.Goals as goal

pub returns-then-looks_back : goal.returns-then-looks_back
returns-then-looks_back c before number there within =
    step-passed c.args.program.now before number c.args.chain.now there c.args.i (c.args.i + 1) refl c.args.keys.now.items c.args.list.now.items c.role_at.result.now c.role_at.ensures.is c.requires.low within
    (c.looks_back.ensures.0 c.if-looks_back.true)

pub returns : goal.returns
returns c before number there within =
    let t = c.args.program.now in
    let next = c.args.i + 1 in
    let step : Step = record { role = c.in_ok-graph_number.field-0; kind = c.in_ok-kind.kind } in
    let grown = step-added t before number c.args.chain.now there c.args.i next refl c.args.keys.now.items c.args.list.now.items c.role_at.result.now c.role_at.ensures.is c.requires.low within c.requires.high
    (λ back. false≢true (sym c.if-looks_back.false ∙ c.looks_back.ensures.1 back)) step c.in_ok-graph_number.ensures.is c.in_ok-kind.ensures c.in_ok-key_of.field-0 c.in_ok-key_of.ensures in
    subst (λ ks. AreStepsWithin t before number c.args.chain.now next ks c.push-2.new.self.items) (sym c.in_ok-push.ensures.items)
    (subst (λ ss. AreStepsWithin t before number c.args.chain.now next (c.args.keys.now.items ++ c.in_ok-key_of.field-0 ∷ []) ss) (sym c.in_ok-push-2.ensures.items) grown)
