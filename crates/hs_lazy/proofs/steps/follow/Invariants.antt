use Rattle.std.proofs.Common.{◌≡◌, ◌-◌, ◌<◌, ◌≤◌, length, slice_index}
use Rattle.hs_lazy.specs.Parts.{AreStillThere, entry}
use Rattle.hs_lazy.specs.Sound.{IsDfaSound}
use Rattle.hs_lazy.specs.Walks.{IsWalk, state_before}
use Rattle.hs_lazy.proofs.steps.follow.Given as goal

abbrev pub invariant-loop-place : goal.invariant-loop-place
invariant-loop-place g l = record {
  sound : IsDfaSound g.E.Engine.meaning l.engines l.dfa.members.items l.dfa.states.items l.dfa.rows.items l.dfa.ends.items;
  members : l.dfa.members ≡ l.fn.dfa.members;
  states : AreStillThere l.fn.dfa.states.items l.dfa.states.items;
  first : l.first < length l.dfa.states.items;
  len : length l.trace ≡ length l.fn.trace;
  within : l.place ≤ length l.bytes;
  walk : IsWalk l.dfa.rows.items l.first l.bytes l.trace l.place;
  stops : l.place < length l.bytes → entry l.dfa.rows.items (state_before l.first l.trace l.place) (slice_index l.bytes l.place) ≡ 0;
}

abbrev pub decreases-loop-place : goal.decreases-loop-place
decreases-loop-place g l = length l.bytes - l.place
