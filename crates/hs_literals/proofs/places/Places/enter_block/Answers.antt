use Rattle.std.proofs.Common.{◌≡◌, ◌+◌, ◌-◌, subst, arith}
use Rattle.hs_confirm.specs.Filed.{literals_of, buckets_of}
use Rattle.hs_literals.specs.OpenPlaces.{AreOpenPlaces}
use Rattle.hs_literals.proofs.AllEndLemmas.{as_many}
use Rattle.hs_literals.proofs.OpenLemmas.{none_between_closed, unmarked_block_is_closed}
use Rattle.hs_literals.proofs.places.Places.enter_block.Goals as goal

pub returns-then-self-clause-none : goal.returns-then-self-clause-none
returns-then-self-clause-none c =
    let old = c.args.self.now in
    let confirm = old.literals.now.confirm in
    none_between_closed (literals_of confirm) (buckets_of confirm) old.history.now old.bytes.now old.masks old.block old.at (old.block + c.min.result + 1) old.literals.now.few (as_many confirm) old.hide_none old.behind (omega (arith, c.min.ensures)) (omega (arith, c.min.ensures, old.behind, old.within))
    (λ i low high. unmarked_block_is_closed old.masks (old.at - old.block) old.marks i old.are_open c.requires low (omega (arith, high, c.min.ensures)))

pub returns-clause-none : goal.returns-clause-none
returns-clause-none c =
    let old = c.args.self.now in
    let confirm = old.literals.now.confirm in
    none_between_closed (literals_of confirm) (buckets_of confirm) old.history.now old.bytes.now old.masks old.block old.at (old.block + c.min.result + 1) old.literals.now.few (as_many confirm) old.hide_none old.behind (omega (arith, c.min.ensures)) (omega (arith, c.min.ensures, old.behind, old.within))
    (λ i low high. unmarked_block_is_closed old.masks (old.at - old.block) old.marks i old.are_open c.requires low (omega (arith, high, c.min.ensures)))

pub invariant_of-self-2-clause-are_open : goal.invariant_of-self-2-clause-are_open
invariant_of-self-2-clause-are_open c =
    let place = c.args.self.now.block + c.min.result in
    let first : 0 ≡ place - place = omega arith in
    subst (λ from. AreOpenPlaces c.write_masks.new.masks from c.open_marks-self.result) first c.open_marks-self.ensures
