use Rattle.std.proofs.Common.{◌≡◌, ◌≤◌, slice_index, Some, slice_get, vec_len}
use Rattle.hs_states.specs.Leading.{AreLeads}
use Rattle.hs_states.specs.AutomatonStates.{AreBuilt}
use Rattle.hs_states.proofs.subsets.Subsets.take_state.Given as goal

abbrev pub invariant-loop-class : goal.invariant-loop-class
invariant-loop-class l = record {
  more : vec_len l.initial.self.known ≤ vec_len l.self.known;
  state : slice_get l.self.known.items l.state ≡ Some l.leads.from;
  leads : AreLeads l.automaton l.leads;
  built : AreBuilt l.automaton (slice_index l.classes.classes) (vec_len l.classes.footings) l.self.known.items l.self.rows.items l.state l.class;
}
