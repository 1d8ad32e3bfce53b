use Rattle.std.proofs.Common.{◌≡◌, ℕ, ◌+◌, ◌-◌, List, length, take, drop, length-drop, subst, arith}
use Rattle.std.proofs.lemmas.List.{length-take}
use Rattle.hs_base.specs.ByteSets.{has}
use Rattle.hs_bits.specs.MemberPlaces.{ArePlacesOf}
use Rattle.hs_accel.proofs.PlaceLemmas.{none-in_block, first-in_block}
use Rattle.hs_accel.proofs.search.first_by_blocks.Goals as goal

pub returns-then-places-ne0 : goal.returns-then-places-ne0
returns-then-places-ne0 c =
    let bytes : List ℕ = c.args.bytes.now in
    let at : ℕ = c.loop-at.at in
    let end : ℕ = at + c.min.result in
    let part : List ℕ = take (end - at) (drop at bytes) in
    let count : length part ≡ end - at = omega (arith, length-take (end - at) (drop at bytes), length-drop at bytes) in
    first-in_block (has c.args.set.now) bytes c.args.from at end (length part) c.member_places-places.result c.lowest_bit.result
    c.loop-at.invariant.0 (omega arith) count c.loop-at.invariant.2 c.member_places-places.ensures c.lowest_bit.ensures.lowest

pub loop-at-preserved : goal.loop-at-preserved
loop-at-preserved c =
    let bytes : List ℕ = c.args.bytes.now in
    let at : ℕ = c.loop-at.at in
    let end : ℕ = at + c.min.result in
    let part : List ℕ = take (end - at) (drop at bytes) in
    let count : length part ≡ end - at = omega (arith, length-take (end - at) (drop at bytes), length-drop at bytes) in
    let places = subst (λ p. ArePlacesOf (has c.args.set.now) part (length part) p) c.if-places-ne0.false c.member_places-places.ensures in
    (omega arith, omega arith, none-in_block (has c.args.set.now) bytes c.args.from at end (length part) count c.loop-at.invariant.2 places)
