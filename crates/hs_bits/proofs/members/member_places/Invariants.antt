use Rattle.std.proofs.Common.{◌≤◌, ◌-◌, length}
use Rattle.hs_base.specs.ByteSets.{has}
use Rattle.hs_bits.specs.MemberPlaces.{ArePlacesOf}
use Rattle.hs_bits.proofs.members.member_places.Given as goal

abbrev pub invariant-loop-at : goal.invariant-loop-at
invariant-loop-at l = (l.at ≤ length l.bytes) × ArePlacesOf (has l.set) l.bytes l.at l.places

abbrev pub decreases-loop-at : goal.decreases-loop-at
decreases-loop-at l = length l.bytes - l.at
