use Rattle.std.proofs.Common.{◌≡◌, ◌<◌, length, Some, slice_get, sym, subst, ◌∙◌}
use Rattle.std.proofs.lemmas.Option.{slice_get_within}
use Rattle.hs_base.specs.Bits.{has_word_bit}
use Rattle.hs_base.specs.Contexts.{prev_behind}
use Rattle.hs_lazy.specs.Parts.{IsState}
use Rattle.hs_lazy.specs.Sound.{IsStep, TakeEntered}
use Rattle.hs_lazy.proofs.SoundLemmas.{IsSoundDfa, after-ends, after-find, after-write}
use Rattle.hs_lazy.proofs.ListLemmas.{there-at}
use Rattle.hs_lazy.proofs.StepLemmas.{step-made}
use Rattle.hs_lazy.proofs.steps.put_step.Goals as goal

pub returns-in_default-clause-sound : goal.returns-in_default-clause-sound
returns-in_default-clause-sound g c =
    after-find g.E.Engine.meaning c.args.engines.now c.args.dfa.now c.find.new.self c.find.ensures.members c.find.ensures.states c.find.ensures.rows c.find.ensures.ends c.requires.sound

pub returns-in_default-number_of-clause-sound : goal.returns-in_default-number_of-clause-sound
returns-in_default-number_of-clause-sound g c =
    let s2 : IsSoundDfa g.E.Engine.meaning c.args.engines.now c.find.new.self =
    after-find g.E.Engine.meaning c.args.engines.now c.args.dfa.now c.find.new.self c.find.ensures.members c.find.ensures.states c.find.ensures.rows c.find.ensures.ends c.requires.sound in
    after-ends g.E.Engine.meaning c.args.engines.now c.find.new.self c.number_of.new.self c.number_of.ensures.members c.number_of.ensures.states c.number_of.ensures.rows c.number_of.ensures.ends s2

pub write_step-requires-clause-state : goal.write_step-requires-clause-state
write_step-requires-clause-state g c =
    let (old, is) = there-at c.args.dfa.now.states.items c.args.state c.requires.state in
    subst (λ v. c.args.state < length v.items) (sym c.number_of.ensures.states) (slice_get_within c.find.new.self.states.items c.args.state old (c.find.ensures.states c.args.state old is))

pub write_step-requires-clause-next : goal.write_step-requires-clause-next
write_step-requires-clause-next g c =
    subst (λ v. c.in-Some.next < length v.items) (sym c.number_of.ensures.states) (slice_get_within c.find.new.self.states.items c.in-Some.next _ c.in-Some.ensures.found.is)

pub returns-clause-sound : goal.returns-clause-sound
returns-clause-sound g c =
    let s2 : IsSoundDfa g.E.Engine.meaning c.args.engines.now c.find.new.self =
    after-find g.E.Engine.meaning c.args.engines.now c.args.dfa.now c.find.new.self c.find.ensures.members c.find.ensures.states c.find.ensures.rows c.find.ensures.ends c.requires.sound in
    let s3 : IsSoundDfa g.E.Engine.meaning c.args.engines.now c.number_of.new.self =
    after-ends g.E.Engine.meaning c.args.engines.now c.find.new.self c.number_of.new.self c.number_of.ensures.members c.number_of.ensures.states c.number_of.ensures.rows c.number_of.ensures.ends s2 in
    let (old, is) = there-at c.args.dfa.now.states.items c.args.state c.requires.state in
    let is3 : slice_get c.number_of.new.self.states.items c.args.state ≡ Some old =
    subst (λ v. slice_get v.items c.args.state ≡ Some old) (sym c.number_of.ensures.states) (c.find.ensures.states c.args.state old is) in
    let takes : TakeEntered g.E.Engine.meaning c.args.engines.now c.number_of.new.self.members.items old c.args.image.now c.args.byte (has_word_bit c.args.ends.before) (has_word_bit c.args.ends.behind) =
    subst (λ v. TakeEntered g.E.Engine.meaning c.args.engines.now v.items old c.args.image.now c.args.byte (has_word_bit c.args.ends.before) (has_word_bit c.args.ends.behind)) (sym (c.number_of.ensures.members ∙ c.find.ensures.members)) (c.requires.takes old is) in
    let state : IsState c.number_of.new.self.states.items c.in-Some.next c.args.image.now (prev_behind (Some c.args.byte)) =
    subst (λ v. IsState v.items c.in-Some.next c.args.image.now (prev_behind (Some c.args.byte))) (sym c.number_of.ensures.states)
    (subst (λ p. IsState c.find.new.self.states.items c.in-Some.next c.args.image.now p) c.behind.ensures c.in-Some.ensures.found) in
    let one : IsStep g.E.Engine.meaning c.args.engines.now c.number_of.new.self.members.items c.number_of.new.self.states.items c.number_of.new.self.ends.items old c.args.byte c.write_step.result =
    step-made g.E.Engine.meaning c.args.engines.now c.number_of.new.self.members.items old c.args.byte c.number_of.new.self.states.items c.number_of.new.self.ends.items c.args.image.now c.args.ends.before c.args.ends.behind c.in-Some.next c.in-Some-number_of.number c.write_step.result
    takes state c.in-Some-number_of.ensures.same c.in-Some-number_of.ensures.within c.write_step.ensures.step in
    after-write g.E.Engine.meaning c.args.engines.now c.number_of.new.self c.write_step.new.self c.args.state c.args.byte c.write_step.result old
    c.write_step.ensures.members c.write_step.ensures.states c.write_step.ensures.ends c.write_step.ensures.rows is3 c.ranges.byte.fits one s3
