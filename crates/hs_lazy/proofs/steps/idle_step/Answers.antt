use Rattle.std.proofs.Common.{ap}
use Rattle.std.proofs.lemmas.Option.{slice_get_within}
use Rattle.hs_lazy.proofs.IdleLemmas.{idle-kept}
use Rattle.hs_lazy.proofs.SoundLemmas.{after-find}
use Rattle.hs_lazy.proofs.StepLemmas.{idle-made, idle-step}
use Rattle.hs_lazy.proofs.steps.idle_step.Goals as goal

pub returns-in_default-clause-sound : goal.returns-in_default-clause-sound
returns-in_default-clause-sound g c =
    after-find g.E.Engine.meaning c.args.engines.now c.args.dfa.now c.find_idle.new.self c.find_idle.ensures.members c.find_idle.ensures.states c.find_idle.ensures.rows c.find_idle.ensures.ends c.requires.sound

pub step-step-requires : goal.step-step-requires
step-step-requires g c = slice_get_within c.find_idle.new.self.states.items c.in-Some.idle _ c.in-Some.ensures.found.is

pub returns-then-step-ne0-clause-sound : goal.returns-then-step-ne0-clause-sound
returns-then-step-ne0-clause-sound g c =
    after-find g.E.Engine.meaning c.args.engines.now c.args.dfa.now c.find_idle.new.self c.find_idle.ensures.members c.find_idle.ensures.states c.find_idle.ensures.rows c.find_idle.ensures.ends c.requires.sound

pub returns-then-step-ne0-clause-step : goal.returns-then-step-ne0-clause-step
returns-then-step-ne0-clause-step g c =
    idle-step g.E.Engine.meaning c.args.engines.now c.find_idle.new.self.members.items c.find_idle.new.self.states.items c.find_idle.new.self.rows.items c.find_idle.new.self.ends.items c.in-Some.idle c.args.prev c.args.byte c.step-step.result
    (after-find g.E.Engine.meaning c.args.engines.now c.args.dfa.now c.find_idle.new.self c.find_idle.ensures.members c.find_idle.ensures.states c.find_idle.ensures.rows c.find_idle.ensures.ends c.requires.sound)
    c.in-Some.ensures.found c.ranges.byte.fits c.step-step.ensures c.if-step-ne0.true

pub make_asked_step-requires-clause-sound : goal.make_asked_step-requires-clause-sound
make_asked_step-requires-clause-sound g c =
    after-find g.E.Engine.meaning c.args.engines.now c.args.dfa.now c.find_idle.new.self c.find_idle.ensures.members c.find_idle.ensures.states c.find_idle.ensures.rows c.find_idle.ensures.ends c.requires.sound

pub make_asked_step-requires-clause-state : goal.make_asked_step-requires-clause-state
make_asked_step-requires-clause-state g c = slice_get_within c.find_idle.new.self.states.items c.in-Some.idle _ c.in-Some.ensures.found.is

pub returns-clause-step : goal.returns-clause-step
returns-clause-step g c =
    idle-made g.E.Engine.meaning c.args.engines.now c.make_asked_step.new.dfa.members.items c.make_asked_step.new.dfa.states.items c.make_asked_step.new.dfa.rows.items c.make_asked_step.new.dfa.ends.items c.in-Some.idle c.args.prev c.args.byte c.make_asked_step.result
    c.make_asked_step.ensures.sound
    (idle-kept c.find_idle.new.self.members.items c.make_asked_step.new.dfa.members.items c.find_idle.new.self.states.items c.make_asked_step.new.dfa.states.items c.in-Some.idle c.args.prev
    (ap (λ v. v.items) c.make_asked_step.ensures.members) c.make_asked_step.ensures.states c.in-Some.ensures.found)
    c.ranges.byte.fits c.make_asked_step.ensures.step
