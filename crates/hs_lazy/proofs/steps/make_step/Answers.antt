use Rattle.std.proofs.Common.{refl, subst}
use Rattle.std.proofs.lemmas.Option.{slice_get_read}
use Rattle.hs_lazy.specs.Sound.{IsIdleStep}
use Rattle.hs_lazy.proofs.TableLemmas.{same-got}
use Rattle.hs_lazy.proofs.steps.make_step.Goals as goal

pub make_live_step-requires-clause-idle : goal.make_live_step-requires-clause-idle
make_live_step-requires-clause-idle g c old is =
    let read = slice_get_read c.args.dfa.now.states.items _ c.args.state c.index.result.now refl c.requires.state c.index.ensures in
    subst (λ o. IsIdleStep g.E.Engine.meaning c.args.engines.now c.idle_step.new.dfa.members.items c.idle_step.new.dfa.states.items c.idle_step.new.dfa.ends.items o.prev c.args.byte c.in-Some.idle)
    (same-got c.idle_step.new.dfa.states.items c.args.state c.index.result.now old (c.idle_step.ensures.states c.args.state c.index.result.now read) is)
    c.in-Some.ensures.step

pub returns-clause-states : goal.returns-clause-states
returns-clause-states g c i x is = c.make_live_step.ensures.states i x (c.idle_step.ensures.states i x is)
