use Rattle.std.proofs.Common.{◌≡◌, Some, slice_get, refl, sym, subst}
use Rattle.std.proofs.lemmas.Option.{slice_get_read}
use Rattle.hs_base.specs.Bits.{has_word_bit}
use Rattle.hs_lazy.specs.Sound.{HaveTaken, TakeEntered}
use Rattle.hs_lazy.proofs.PartLemmas.{four-unset, nowhere}
use Rattle.hs_lazy.proofs.SoundLemmas.{whole-at}
use Rattle.hs_lazy.proofs.StepLemmas.{others-asleep}
use Rattle.hs_lazy.proofs.TableLemmas.{same-got}
use Rattle.hs_lazy.proofs.steps.make_asked_step.Goals as goal

pub asked_members-asked-requires-clause-live_len : goal.asked_members-asked-requires-clause-live_len
asked_members-asked-requires-clause-live_len g c = (whole-at c.args.dfa.now c.args.state c.index.result.now c.requires.state c.index.ensures).live_len

pub slice_bounds-take_members-end : goal.slice_bounds-take_members-end
slice_bounds-take_members-end g c = sym (whole-at c.args.dfa.now c.args.state c.index.result.now c.requires.state c.index.ensures).image_len

pub take_members-requires-clause-old_len : goal.take_members-requires-clause-old_len
take_members-requires-clause-old_len g c = (whole-at c.args.dfa.now c.args.state c.index.result.now c.requires.state c.index.ensures).image_len

pub take_members-requires-clause-len : goal.take_members-requires-clause-len
take_members-requires-clause-len g c = (whole-at c.args.dfa.now c.args.state c.index.result.now c.requires.state c.index.ensures).image_len

pub take_members-requires-clause-others : goal.take_members-requires-clause-others
take_members-requires-clause-others g c =
    subst (λ l. HaveTaken g.E.Engine.meaning c.args.engines.now l c.index.result.now c.index.result.now.image c.args.byte c.asked_members-asked.result nowhere) (sym c.deref-2.ensures.value)
    (others-asleep g.E.Engine.meaning c.args.engines.now c.args.dfa.now.members.items c.index.result.now c.args.byte c.asked_members-asked.result nowhere
    c.requires.blank c.requires.sound.of c.args.dfa.now.apart (whole-at c.args.dfa.now c.args.state c.index.result.now c.requires.state c.index.ensures) c.ranges.byte.fits
    (λ j m is kept. c.asked_members-asked.ensures.bits j m (subst (λ l. slice_get l j ≡ Some m) (sym c.deref.ensures.value) is) kept) four-unset four-unset)

pub put_step-requires-clause-takes : goal.put_step-requires-clause-takes
put_step-requires-clause-takes g c old is =
    subst (λ o. TakeEntered g.E.Engine.meaning c.args.engines.now c.args.dfa.now.members.items o c.take_members.new.image c.args.byte (has_word_bit c.take_members.new.ends.before) (has_word_bit c.take_members.new.ends.behind))
    (same-got c.args.dfa.now.states.items c.args.state c.index.result.now old (slice_get_read c.args.dfa.now.states.items _ c.args.state c.index.result.now refl c.requires.state c.index.ensures) is)
    (subst (λ l. TakeEntered g.E.Engine.meaning c.args.engines.now l c.index.result.now c.take_members.new.image c.args.byte (has_word_bit c.take_members.new.ends.before) (has_word_bit c.take_members.new.ends.behind)) c.deref-2.ensures.value (c.if-not-take_members.ensures.takes refl))
