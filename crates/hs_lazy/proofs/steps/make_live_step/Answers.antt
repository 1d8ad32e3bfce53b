use Rattle.std.proofs.Common.{refl, sym, subst}
use Rattle.std.proofs.lemmas.Option.{slice_get_read}
use Rattle.hs_base.specs.Bits.{has_word_bit}
use Rattle.hs_lazy.specs.Sound.{HaveTaken, TakeEntered}
use Rattle.hs_lazy.proofs.SoundLemmas.{whole-at}
use Rattle.hs_lazy.proofs.StepLemmas.{others-idle}
use Rattle.hs_lazy.proofs.TableLemmas.{same-got}
use Rattle.hs_lazy.proofs.steps.make_live_step.Goals as goal

pub cost_of-requires : goal.cost_of-requires
cost_of-requires g c = record { len = (whole-at c.args.dfa.now c.args.state c.index.result.now c.requires.state c.index.ensures).live_len }

pub take_members-requires-clause-asked_len : goal.take_members-requires-clause-asked_len
take_members-requires-clause-asked_len g c = (whole-at c.args.dfa.now c.args.state c.index.result.now c.requires.state c.index.ensures).live_len

pub take_members-requires-clause-old_len : goal.take_members-requires-clause-old_len
take_members-requires-clause-old_len g c = (whole-at c.args.dfa.now c.args.state c.index.result.now c.requires.state c.index.ensures).image_len

pub take_members-requires-clause-others : goal.take_members-requires-clause-others
take_members-requires-clause-others g c =
    subst (λ l. HaveTaken g.E.Engine.meaning c.args.engines.now l c.index.result.now c.image_behind-image.result c.args.byte c.index.result.now.live c.set_of.result.now) (sym c.deref.ensures.value)
    (others-idle g.E.Engine.meaning c.args.engines.now c.args.dfa.now.members.items c.index.result.now c.args.byte c.args.dfa.now.states.items c.args.dfa.now.ends.items c.args.idle c.image_behind-image.result c.set_of.result.now
    (c.requires.idle c.index.result.now (slice_get_read c.args.dfa.now.states.items _ c.args.state c.index.result.now refl c.requires.state c.index.ensures))
    (whole-at c.args.dfa.now c.args.state c.index.result.now c.requires.state c.index.ensures) c.image_behind-image.ensures c.set_of.ensures.same)

pub put_step-requires-clause-takes : goal.put_step-requires-clause-takes
put_step-requires-clause-takes g c old is =
    subst (λ o. TakeEntered g.E.Engine.meaning c.args.engines.now c.args.dfa.now.members.items o c.take_members.new.image c.args.byte (has_word_bit c.take_members.new.ends.before) (has_word_bit c.take_members.new.ends.behind))
    (same-got c.args.dfa.now.states.items c.args.state c.index.result.now old (slice_get_read c.args.dfa.now.states.items _ c.args.state c.index.result.now refl c.requires.state c.index.ensures) is)
    (subst (λ l. TakeEntered g.E.Engine.meaning c.args.engines.now l c.index.result.now c.take_members.new.image c.args.byte (has_word_bit c.take_members.new.ends.before) (has_word_bit c.take_members.new.ends.behind)) c.deref.ensures.value (c.if-not-take_members.ensures.takes refl))
