use Rattle.std.proofs.lemmas.Option.{slice_get_within}
use Rattle.hs_lazy.proofs.SoundLemmas.{after-find}
use Rattle.hs_lazy.proofs.steps.take_chunk.Goals as goal

pub returns-in_default-clause-sound : goal.returns-in_default-clause-sound
returns-in_default-clause-sound g c =
    after-find g.E.Engine.meaning c.args.engines.now c.args.dfa.now c.find_near.new.self c.find_near.ensures.members c.find_near.ensures.states c.find_near.ensures.rows c.find_near.ensures.ends c.requires.sound

pub follow-requires-clause-sound : goal.follow-requires-clause-sound
follow-requires-clause-sound g c =
    after-find g.E.Engine.meaning c.args.engines.now c.args.dfa.now c.find_near.new.self c.find_near.ensures.members c.find_near.ensures.states c.find_near.ensures.rows c.find_near.ensures.ends c.requires.sound

pub follow-requires-clause-first : goal.follow-requires-clause-first
follow-requires-clause-first g c = slice_get_within c.find_near.new.self.states.items c.in-Some.first _ c.in-Some.ensures.found.is
