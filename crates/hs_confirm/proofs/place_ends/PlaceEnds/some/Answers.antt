use Rattle.std.proofs.Common.{◌≤◌, ◌<◌, ◌+◌, ◌++◌, ◌∙◌, length, refl, sym, ap, subst, arith, length-append}
use Rattle.hs_confirm.specs.Filed.{literals_of, buckets_of}
use Rattle.hs_confirm.specs.Found.{AreAmong, AreBuckets, buckets_left}
use Rattle.hs_confirm.specs.Heads.{IsFirstHead}
use Rattle.hs_confirm.proofs.FoundLemmas.{first-known, open-told}
use Rattle.hs_confirm.proofs.HeadLemmas.{open-all, open-head, left_behind-exact, some-exact}
use Rattle.hs_confirm.proofs.place_ends.PlaceEnds.some.Goals as goal

pub first_head-requires-clause-buckets : goal.first_head-requires-clause-buckets
first_head-requires-clause-buckets c =
    let fits : c.args.mask < 256 = omega (arith, c.ranges.mask.fits) in
    subst AreBuckets (sym c.from.ensures) (λ bucket is. (open-all c.args.mask fits bucket is).0)

pub returns-in-None : goal.returns-in-None
unfolding literals_of buckets_of
returns-in-None c =
    let confirm = c.args.confirm.now in
    let text = c.args.history.now ++ c.args.bytes.now in
    let offset = length c.args.history.now + c.args.at in
    let fits : c.args.mask < 256 = omega (arith, c.ranges.mask.fits) in
    let inside : offset ≤ length text = omega (arith, length-append c.args.history.now c.args.bytes.now, c.requires.within) in
    record { rising = tt; exact = open-told confirm.widths confirm.entries.items c.args.mask _ text offset _ confirm.keyed fits inside c.from.ensures c.in-None.ensures.all }

pub heads_of-requires-clause-first : goal.heads_of-requires-clause-first
heads_of-requires-clause-first c =
    let entries = c.args.confirm.now.entries.items in
    let text = c.args.history.now ++ c.args.bytes.now in
    let offset = length c.args.history.now + c.args.at in
    let first = c.in-Some.first in
    first-known entries c.args.mask text offset first (omega (arith, c.ranges.mask.fits)) (c.in-Some.ensures.found first refl) (subst (AreAmong first.left) c.from.ensures (c.in-Some.ensures.left first refl))
    (c.in-Some.ensures.all ∙ ap (λ buckets. buckets_left entries buckets text offset) c.from.ensures)

pub returns : goal.returns
unfolding literals_of buckets_of
returns c =
    let confirm = c.args.confirm.now in
    let entries = confirm.entries.items in
    let text = c.args.history.now ++ c.args.bytes.now in
    let offset = length c.args.history.now + c.args.at in
    let inside : offset ≤ length text = omega (arith, length-append c.args.history.now c.args.bytes.now, c.requires.within) in
    let first = c.in-Some.first in
    let is : IsFirstHead entries c.args.mask text offset first.bucket first.number first.left =
    first-known entries c.args.mask text offset first (omega (arith, c.ranges.mask.fits)) (c.in-Some.ensures.found first refl) (subst (AreAmong first.left) c.from.ensures (c.in-Some.ensures.left first refl))
    (c.in-Some.ensures.all ∙ ap (λ buckets. buckets_left entries buckets text offset) c.from.ensures) in
    let are = left_behind-exact confirm.widths entries c.args.mask c.heads_of.result text offset confirm.keyed inside c.heads_of.ensures in (
      some-exact entries c.args.mask text offset first.bucket first.number _ inside (open-head entries c.args.mask text offset first.bucket first.number is.unmasked is.first) is.within are,
      are,
    )
