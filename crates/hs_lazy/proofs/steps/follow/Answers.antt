use Rattle.std.proofs.Common.{◌≤◌, length, slice_index, ap, ◌∙◌, arith, length-set}
use Rattle.hs_lazy.specs.Parts.{entry}
use Rattle.hs_lazy.proofs.TableLemmas.{kept-length, walk-kept, walk-more}
use Rattle.hs_lazy.proofs.steps.follow.Goals as goal

pub walk-place-requires-in-loop-place-clause-first : goal.walk-place-requires-in-loop-place-clause-first
walk-place-requires-in-loop-place-clause-first g c =
    let more : length c.loop-place.dfa.states.items ≤ length c.make_step.new.dfa.states.items = kept-length c.loop-place.dfa.states.items c.make_step.new.dfa.states.items c.make_step.ensures.states in
    omega (arith, more, c.loop-place.invariant.first)

pub walk-place-requires-in-loop-place-clause-walk : goal.walk-place-requires-in-loop-place-clause-walk
walk-place-requires-in-loop-place-clause-walk g c =
    walk-more c.make_step.new.dfa.rows.items c.args.first c.args.bytes.now c.loop-place.trace c.loop-place.place c.in-Some.step
    (omega (arith, c.loop-place-test.true, c.loop-place.invariant.len, c.requires.few))
    (c.in-Some.ensures.step.is ∙ ap (λ s. entry c.make_step.new.dfa.rows.items s (slice_index c.args.bytes.now c.loop-place.place)) c.state_at-state.ensures)
    c.in-Some.ensures.step.known
    (walk-kept c.loop-place.dfa.rows.items c.make_step.new.dfa.rows.items c.args.first c.args.bytes.now c.loop-place.trace c.loop-place.place c.make_step.ensures.rows c.loop-place.invariant.walk)

pub loop-place-preserved : goal.loop-place-preserved
loop-place-preserved g c = record {
  sound = c.make_step.ensures.sound;
  members = c.make_step.ensures.members ∙ c.loop-place.invariant.members;
  states = λ i x is. c.make_step.ensures.states i x (c.loop-place.invariant.states i x is);
  first =
      let more : length c.loop-place.dfa.states.items ≤ length c.make_step.new.dfa.states.items = kept-length c.loop-place.dfa.states.items c.make_step.new.dfa.states.items c.make_step.ensures.states in
      omega (arith, more, c.loop-place.invariant.first);
  len = c.walk-place-in-loop-place.ensures.len ∙ (length-set c.loop-place.trace c.loop-place.place c.in-Some.step ∙ c.loop-place.invariant.len);
  within = c.walk-place-in-loop-place.ensures.within;
  walk = c.walk-place-in-loop-place.ensures.walk;
  stops = c.walk-place-in-loop-place.ensures.stops;
}
