use Rattle.std.proofs.Common.{ap, length, arith}
use Rattle.hs_lazy.proofs.EmptyLemmas.{no-members, no-states, zeros-leading, zeros-unknown}
use Rattle.hs_lazy.proofs.dfa.LazyDfa.new.Goals as goal

pub invariant_of-result-clause-apart : goal.invariant_of-result-clause-apart
invariant_of-result-clause-apart c = no-members _ c.in_ok-with_capacity.ensures.items

pub invariant_of-result-clause-leading : goal.invariant_of-result-clause-leading
invariant_of-result-clause-leading c = zeros-leading _ 262144 _ (c.in_ok-vec.ensures.items_if_clones_equal (λ y e. e))

pub invariant_of-result-clause-unknown : goal.invariant_of-result-clause-unknown
invariant_of-result-clause-unknown c = zeros-unknown _ 262144 _ (c.in_ok-vec.ensures.items_if_clones_equal (λ y e. e))

pub invariant_of-result-clause-live : goal.invariant_of-result-clause-live
invariant_of-result-clause-live c = no-states _ _ c.in_ok-with_capacity-2.ensures.items

pub returns-clause-members : goal.returns-clause-members
returns-clause-members c = c.in_ok-with_capacity.ensures.items

pub returns-clause-states : goal.returns-clause-states
returns-clause-states c = c.in_ok-with_capacity-2.ensures.items

pub invariant_of-result-clause-few : goal.invariant_of-result-clause-few
invariant_of-result-clause-few c = omega (arith, ap length c.in_ok-with_capacity.ensures.items)

pub invariant_of-result-clause-states_few : goal.invariant_of-result-clause-states_few
invariant_of-result-clause-states_few c = omega (arith, ap length c.in_ok-with_capacity-2.ensures.items)

pub invariant_of-result-clause-states_room : goal.invariant_of-result-clause-states_room
invariant_of-result-clause-states_room c = c.in_ok-with_capacity-2.ensures.capacity

pub invariant_of-result-clause-members_room : goal.invariant_of-result-clause-members_room
invariant_of-result-clause-members_room c = c.in_ok-with_capacity.ensures.capacity
