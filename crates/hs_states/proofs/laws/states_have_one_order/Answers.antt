use Rattle.hs_states.specs.DfaStates.{first_state, move_by, tests_of}
use Rattle.hs_states.proofs.DiscoveryLemmas.{one-order}
use Rattle.hs_states.proofs.laws.states_have_one_order.Goals as goal

pub returns : goal.returns
returns c r h xs ys = one-order (first_state (tests_of r) h) (move_by (tests_of r) h) xs ys
