use Rattle.hs_base.specs.ByteSets.{has}
use Rattle.hs_bits.specs.MemberPlaces.{ArePlacesOf}
use Rattle.hs_bits.proofs.members.with_rest.Given as goal

abbrev pub invariant-loop-at : goal.invariant-loop-at
invariant-loop-at l = ArePlacesOf (has l.set) l.bytes l.at l.places
