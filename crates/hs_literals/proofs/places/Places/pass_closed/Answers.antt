use Rattle.std.proofs.Common.{◌<◌, ◌+◌, ◌-◌, length, arith}
use Rattle.hs_confirm.specs.Filed.{literals_of, buckets_of}
use Rattle.hs_literals.proofs.AllEndLemmas.{as_many}
use Rattle.hs_literals.proofs.OpenLemmas.{none_between_closed, unmarked_is_closed, open_is_inside}
use Rattle.hs_literals.proofs.places.Places.pass_closed.Goals as goal

pub returns-clause-none_before : goal.returns-clause-none_before
returns-clause-none_before c =
    let old = c.args.self.now in
    let confirm = old.literals.now.confirm in
    let place = c.lowest_bit-place.result in
    let lowest = c.lowest_bit-place.ensures.lowest in
    let there = (old.are_open place).0 lowest.is in
    let inside : old.block + place < length old.bytes.now = open_is_inside old.masks old.bytes.now old.block place old.closed_behind there.1 there.2 in
    none_between_closed (literals_of confirm) (buckets_of confirm) old.history.now old.bytes.now old.masks old.block old.at (old.block + place + 1) old.literals.now.few (as_many confirm) old.hide_none old.behind (omega (arith, there.1)) (omega (arith, inside))
    (λ i low high. unmarked_is_closed old.masks (old.at - old.block) old.marks i old.are_open (lowest.lowest i (omega arith)) low (omega (arith, there.1, high)))

pub returns-clause-hides : goal.returns-clause-hides
returns-clause-hides c =
    let old = c.args.self.now in
    let confirm = old.literals.now.confirm in
    let place = c.lowest_bit-place.result in
    let there = (old.are_open place).0 c.lowest_bit-place.ensures.lowest.is in
    old.hide_none place there.1 (open_is_inside old.masks old.bytes.now old.block place old.closed_behind there.1 there.2)
