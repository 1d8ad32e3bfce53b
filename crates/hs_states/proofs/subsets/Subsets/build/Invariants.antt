use Rattle.std.proofs.Common.{◌-◌, ◌≤◌, slice_index, vec_len}
use Rattle.hs_states.specs.AutomatonStates.{AreBuilt}
use Rattle.hs_states.proofs.subsets.Subsets.build.Given as goal

abbrev pub invariant-loop-state : goal.invariant-loop-state
invariant-loop-state l = record {
  built : AreBuilt l.automaton (slice_index l.classes.classes) (vec_len l.classes.footings) l.built.known.items l.built.rows.items l.state 0;
  within : l.state ≤ vec_len l.built.known;
}

abbrev pub decreases-loop-state : goal.decreases-loop-state
decreases-loop-state l = 255 - l.state
